-- The readers of single fields read them: bytes and numbers, and those that pass a test, as a version does.
use Rattle.std.proofs.Common.{◌≡◌, ◌≢◌, ℕ, ◌≤◌, ◌<◌, ◌^◌, Bool, true, false, eqb, ltb, List, [], ◌∷◌, ◌++◌, length, Result, Ok, Err, refl, sym, ap, ap₂, subst, ◌∙◌, arith, inl, inr, lit<}
use Rattle.std.specs.Int.{w16, w32, to_be_bytes}
use Rattle.std.proofs.lemmas.Bool.{cases_Bool, ltb-true, lt-ltb, eqb-true, eq-eqb}
use Rattle.std.proofs.lemmas.List.{append-nil}
use Rattle.asl_loader.specs.Bytes.{Field, Plain, bytes_of, text_of, one, two, EndsWithin, IsLike, IsBadByte}
use Rattle.asl_loader.specs.declared.fault.Stop.{Stop}
use Rattle.asl_loader.specs.declared.fault.Stop.TheVariants.{Short, Bad}
use Rattle.asl_loader.specs.SharedFields.{◌>>=◌, passed, byte_at, number_at, below_at, letters_at, version_at}
use Rattle.asl_code.specs.Versions.{IsVersion, is_version}
use Rattle.asl_code.proofs.Values.{AreBytes}
use Rattle.asl_code.proofs.Versions.{is_version-true, IsVersion-is_version, small_version}
use Rattle.asl_loader.proofs.Reader.{Reads, IsBadFrom, bind_ok, bind_err, done, ok_is}
use Rattle.asl_loader.proofs.FieldNumbers.{reads_as, one_field, like_plain, AreBytes-front, IsNumber, byte_number, two_number, four_number}

module _ (Is : ℕ → Type 0) (text : ℕ → List ℕ) (width : ℕ) (reader : List ℕ → Result (ℕ × List ℕ) Stop) (number : IsNumber Is text width reader) where
  abbrev pub field_of : ℕ → List Field
  field_of n = Plain (text n) ∷ []

  -- fewer bytes than the field has
  number_cut : (Are : ℕ → Type 0) (n : ℕ) → Are n → (bytes : List ℕ) → reader bytes ≡ Err Short → EndsWithin ℕ Are (λ n. Plain (text n) ∷ []) bytes
  number_cut Are n are bytes e = record {
    thing = n;
    is = are;
    front = [];
    next = Plain (text n);
    more = [];
    opens = refl;
    rest = bytes;
    parts = refl;
    cut = omega (arith, number.wide n, number.short bytes e);
  }

  -- one number has such bytes
  text_is_one : (n m : ℕ) → Is n → Is m → text n ≡ text m → n ≡ m
  text_is_one n m p q e =
      let both : done (n, []) ≡ done (m, []) = sym (number.again n [] p) ∙ ap (λ (t : List ℕ). reader (t ++ [])) e ∙ number.again m [] q in
      ap (λ (u : ℕ × List ℕ). u.0) (ok_is (n, []) (m, []) both)

  -- where the bytes end within the field, there are fewer than it has
  number_cut_again : (Are : ℕ → Type 0) (bytes : List ℕ) → EndsWithin ℕ Are (λ n. Plain (text n) ∷ []) bytes → reader bytes ≡ Err Short
  number_cut_again Are bytes w =
      let o = one_field (Plain (text w.thing)) w.front w.next w.more w.opens in
      let all_left : bytes ≡ w.rest = w.parts ∙ ap (λ (t : List Field). text_of t ++ w.rest) o.0 in
      let len : length (text w.thing) ≡ length (bytes_of w.next) = ap (λ (f : Field). length (bytes_of f)) o.1 in
      number.stops bytes (omega (arith, w.cut, len, number.wide w.thing, ap length all_left))

  -- what stands in place of a number that may not stand there: another number
  record Instead (Are : ℕ → Type 0) (bytes : List ℕ) (left : ℕ) : Type 0 where
    other : ℕ
    is : Is other
    rest : List ℕ
    parts : bytes ≡ text other ++ rest
    none : Are other → ⊥
    all_left : left ≡ length bytes

  instead : (Are : ℕ → Type 0) (bytes : List ℕ) (left : ℕ) → AreBytes bytes → IsBadFrom ℕ Are (λ n. Plain (text n) ∷ []) bytes left → Instead Are bytes left
  instead Are bytes left fit v =
      let w = v.2 in
      let o = one_field (Plain (text w.thing)) w.front w.next w.more w.opens in
      let like : IsLike (Plain (text w.thing)) w.wrong = subst (λ (f : Field). IsLike f w.wrong) (sym o.1) w.like in
      let p = like_plain (text w.thing) w.wrong like in
      let parts : bytes ≡ p.0 ++ w.rest = w.parts ∙ ap₂ (λ (t : List Field) (f : Field). text_of t ++ (bytes_of f ++ w.rest)) o.0 p.1 in
      let n = number.all p.0 (sym p.2 ∙ number.wide w.thing) (AreBytes-front p.0 w.rest (subst AreBytes parts fit)) in
      let at_front : w.place ≡ 0 = subst (λ (f : Field). IsBadByte f w.place) p.1 w.bad in
      let nothing : length (text_of w.front) ≡ 0 = ap (λ (t : List Field). length (text_of t)) o.0 in
      record {
        other = n.0;
        is = n.1;
        rest = w.rest;
        parts = parts ∙ ap (λ (t : List ℕ). t ++ w.rest) (sym n.2);
        none = λ are. w.none n.0 [] are (ap₂ (λ (t : List Field) (f : Field). t ++ f ∷ []) (sym o.0) (ap Plain n.2 ∙ sym p.1));
        all_left = omega (arith, v.1, w.at_is, at_front, nothing);
      }

  -- any number is read
  pub reads_number : (n : ℕ) → Is n → Reads ℕ Is (λ n. Plain (text n) ∷ []) reader
  reads_number n is = record {
    found = λ bytes x rest fit e. let f = number.takes bytes x rest fit e in (f.0, f.1 ∙ ap (λ (t : List ℕ). t ++ rest) (sym (append-nil (text x))));
    again = λ x rest is_x. ap (λ (t : List ℕ). reader (t ++ rest)) (append-nil (text x)) ∙ number.again x rest is_x;
    cut = λ bytes fit e. number_cut Is n is bytes e;
    bad = λ bytes left fit e. absurd (number.never bytes left e);
    cut_again = λ bytes w. number_cut_again Is bytes w;
    bad_again = λ bytes left fit w. let i = instead Is bytes left fit w in absurd (i.none i.is);
  }

  -- what a test that is passed or not answers
  passed_ok : (ok : Bool) (x y : ℕ × List ℕ) (bytes : List ℕ) → passed ok x bytes ≡ Ok y → (ok ≡ true) × (x ≡ y)
  passed_ok true x y bytes e = (refl, ok_is x y e)
  passed_ok false x y bytes e = absurd cc

  passed_short : (ok : Bool) (x : ℕ × List ℕ) (bytes : List ℕ) → passed ok x bytes ≢ Err Short
  passed_short true x bytes e = absurd cc
  passed_short false x bytes e = let same : Bad (length bytes) ≡ Short = cc in absurd cc

  passed_bad : (ok : Bool) (x : ℕ × List ℕ) (bytes : List ℕ) (left : ℕ) → passed ok x bytes ≡ Err (Bad left) → (ok ≡ false) × (left ≡ length bytes)
  passed_bad true x bytes left e = absurd cc
  passed_bad false x bytes left e = let same : Bad (length bytes) ≡ Bad left = cc in (refl, cc)

  module _ (test : ℕ → Bool) (n : ℕ) (is : Is n) (ok : test n ≡ true) where
    -- the number that is read, where it passes the test
    tested : List ℕ → Result (ℕ × List ℕ) Stop
    tested bytes = reader bytes >>= λ x. passed (test x.0) x bytes

    tested_found : (bytes : List ℕ) (x : ℕ) (rest : List ℕ) → AreBytes bytes → tested bytes ≡ Ok (x, rest) → (Is x × (test x ≡ true)) × (bytes ≡ text_of (Plain (text x) ∷ []) ++ rest)
    unfolding tested
    tested_found bytes x rest fit e =
        let b = bind_ok (reader bytes) (λ x. passed (test x.0) x bytes) (x, rest) e in
        let g = passed_ok (test b.0.0) b.0 (x, rest) bytes b.2 in
        let r : reader bytes ≡ Ok (x, rest) = b.1 ∙ ap done g.1 in
        let t : test x ≡ true = ap (λ (u : ℕ × List ℕ). test u.0) (sym g.1) ∙ g.0 in
        let f = number.takes bytes x rest fit r in
        ((f.0, t), f.1 ∙ ap (λ (t : List ℕ). t ++ rest) (sym (append-nil (text x))))

    tested_again : (x : ℕ) (rest : List ℕ) → Is x × (test x ≡ true) → tested (text_of (Plain (text x) ∷ []) ++ rest) ≡ Ok (x, rest)
    unfolding tested
    tested_again x rest is_x =
        let r : reader (text_of (Plain (text x) ∷ []) ++ rest) ≡ Ok (x, rest) = ap (λ (t : List ℕ). reader (t ++ rest)) (append-nil (text x)) ∙ number.again x rest is_x.0 in
        let t : test x ≡ true = is_x.1 in
        rw (r, t) refl

    tested_cut : (bytes : List ℕ) → AreBytes bytes → tested bytes ≡ Err Short → EndsWithin ℕ (λ x. Is x × (test x ≡ true)) (λ n. Plain (text n) ∷ []) bytes
    unfolding tested
    tested_cut bytes fit e =
        elim (bind_err (reader bytes) (λ x. passed (test x.0) x bytes) Short e) [
          | inl f ↦ number_cut (λ x. Is x × (test x ≡ true)) n (is, ok) bytes f
          | inr b ↦ absurd (passed_short (test b.0.0) b.0 bytes b.2)
        ]

    tested_bad : (bytes : List ℕ) (left : ℕ) → AreBytes bytes → tested bytes ≡ Err (Bad left) → IsBadFrom ℕ (λ x. Is x × (test x ≡ true)) (λ n. Plain (text n) ∷ []) bytes left
    unfolding tested
    tested_bad bytes left fit e =
        elim (bind_err (reader bytes) (λ x. passed (test x.0) x bytes) (Bad left) e) [
          | inl f ↦ absurd (number.never bytes left f)
          | inr b ↦
              let g = passed_bad (test b.0.0) b.0 bytes left b.2 in
              let f = number.takes bytes b.0.0 b.0.1 fit b.1 in (
                0,
                omega (arith, g.1),
                record {
                  thing = n;
                  is = (is, ok);
                  front = [];
                  next = Plain (text n);
                  more = [];
                  opens = refl;
                  wrong = Plain (text b.0.0);
                  rest = b.0.1;
                  parts = f.1;
                  like = number.wide n ∙ sym (number.wide b.0.0);
                  place = 0;
                  bad = refl;
                  at_is = refl;
                  none = λ other following is_o same.
                      let t : text other ≡ text b.0.0 = cc in
                      let o : other ≡ b.0.0 = text_is_one other b.0.0 is_o.0 f.0 t in
                      let yes : test b.0.0 ≡ true = ap test (sym o) ∙ is_o.1 in
                      let no : test b.0.0 ≡ false = g.0 in
                      absurd cc;
                },
              )
        ]

    tested_cut_again : (bytes : List ℕ) → EndsWithin ℕ (λ x. Is x × (test x ≡ true)) (λ n. Plain (text n) ∷ []) bytes → tested bytes ≡ Err Short
    unfolding tested
    tested_cut_again bytes w =
        let e : reader bytes ≡ Err Short = number_cut_again (λ x. Is x × (test x ≡ true)) bytes w in
        rw e refl

    tested_bad_again : (bytes : List ℕ) (left : ℕ) → AreBytes bytes → IsBadFrom ℕ (λ x. Is x × (test x ≡ true)) (λ n. Plain (text n) ∷ []) bytes left → tested bytes ≡ Err (Bad left)
    unfolding tested
    tested_bad_again bytes left fit w =
        let i = instead (λ x. Is x × (test x ≡ true)) bytes left fit w in
        let e : reader bytes ≡ Ok (i.other, i.rest) = ap reader i.parts ∙ number.again i.other i.rest i.is in
        elim (cases_Bool (test i.other)) [
          | inl taken ↦ absurd (i.none (i.is, taken))
          | inr refused ↦ rw (e, refused) (ap (λ (n : ℕ). Err (Bad n)) (sym i.all_left))
        ]

    pub reads_tested : Reads ℕ (λ x. Is x × (test x ≡ true)) (λ n. Plain (text n) ∷ []) (λ bytes. reader bytes >>= λ x. passed (test x.0) x bytes)
    unfolding tested
    reads_tested = record { found = tested_found; again = tested_again; cut = tested_cut; bad = tested_bad; cut_again = tested_cut_again; bad_again = tested_bad_again }

-- any byte, and any two
pub byte_reads : Reads ℕ (λ n. n < 256) (λ n. one n ∷ []) byte_at
byte_reads = reads_number (λ n. n < 256) (λ n. n ∷ []) 1 byte_at byte_number 0 (lit< tt)

pub two_reads : Reads ℕ (λ n. n < 2 ^ 16) (λ n. two n ∷ []) (number_at w16)
two_reads = reads_number (λ n. n < 2 ^ 16) (λ n. to_be_bytes w16 n) 2 (number_at w16) two_number 0 (lit< tt)

-- a byte below a limit
pub below_reads : (limit : ℕ) → 0 < limit → limit ≤ 256 → Reads ℕ (λ n. n < limit) (λ n. one n ∷ []) (below_at limit)
unfolding below_at
below_reads limit some few =
    reads_as ℕ (λ x. (x < 256) × (ltb x limit ≡ true)) (λ n. n < limit) (λ n. one n ∷ []) (below_at limit)
    (reads_tested (λ n. n < 256) (λ n. n ∷ []) 1 byte_at byte_number (λ x. ltb x limit) 0 (lit< tt) (lt-ltb 0 limit some))
    (λ x is. ltb-true x limit is.1)
    (λ x is. (omega arith, lt-ltb x limit is))

-- one of the versions
pub version_reads : Reads ℕ IsVersion (λ n. two n ∷ []) version_at
unfolding version_at
version_reads =
    reads_as ℕ (λ x. (x < 2 ^ 16) × (is_version x ≡ true)) IsVersion (λ n. two n ∷ []) version_at
    (reads_tested (λ n. n < 2 ^ 16) (λ n. to_be_bytes w16 n) 2 (number_at w16) two_number is_version 1 (lit< tt) (IsVersion-is_version 1 (inl refl)))
    (λ x is. is_version-true x is.1)
    (λ x is. (small_version x is, IsVersion-is_version x is))

-- four letters that must stand there
pub letters_reads : (letters : ℕ) → letters < 2 ^ 32 → Reads ℕ (λ n. n ≡ letters) (λ n. Plain (to_be_bytes w32 n) ∷ []) (letters_at letters)
unfolding letters_at
letters_reads letters fits =
    reads_as ℕ (λ x. (x < 2 ^ 32) × (eqb x letters ≡ true)) (λ n. n ≡ letters) (λ n. Plain (to_be_bytes w32 n) ∷ []) (letters_at letters)
    (reads_tested (λ n. n < 2 ^ 32) (λ n. to_be_bytes w32 n) 4 (number_at w32) four_number (λ x. eqb x letters) letters fits (eq-eqb letters letters refl))
    (λ x is. eqb-true x letters is.1)
    (λ x is. (omega (arith, is, fits), eq-eqb x letters is))
