-- A reader that follows another: what the two take is spelled by the fields of the whole, what is spelled so they take, and what stops
-- one of them is the first thing that is wrong in the whole.
use Rattle.std.proofs.Common.{◌≡◌, ◌≢◌, ℕ, ◌+◌, inl, inr, List, [], ◌∷◌, ◌++◌, length, Result, Ok, Err, refl, sym, ap, subst, ◌∙◌, append_assoc, arith, length-append}
use Rattle.std.proofs.lemmas.List.{append-nil, append_cancel_left}
use Rattle.asl_loader.specs.Bytes.{Field, bytes_of, text_of, EndsWithin}
use Rattle.asl_loader.specs.declared.fault.Stop.{Stop}
use Rattle.asl_loader.specs.declared.fault.Stop.TheVariants.{Short, Bad}
use Rattle.asl_loader.specs.SharedFields.{◌>>=◌}
use Rattle.asl_code.proofs.Values.{AreBytes}
use Rattle.asl_loader.proofs.Reader.{IsBadFrom, Reads, AreBytes-rest, bind_ok, bind_err, done, ok_is, text_of-append}

-- where a list that begins with other ++ tail, and front ++ x ∷ more, are one: either front lies within the first part, or
-- the first part is the beginning of front
pub data Overlap (A : Type 0) (part front : List A) (x : A) : Type 0 where
  within : (after : List A) → part ≡ front ++ x ∷ after → Overlap A part front x
  beyond : (middle : List A) → front ≡ part ++ middle → Overlap A part front x

overlap_more : (A : Type 0) (p f : A) (part front : List A) (x : A) → p ≡ f → Overlap A part front x → Overlap A (p ∷ part) (f ∷ front) x
overlap_more A p f part front x same (within rest e) = within rest (cc)
overlap_more A p f part front x same (beyond middle e) = beyond middle (cc)

-- one of the two holds
pub overlap : (A : Type 0) (part tail front : List A) (x : A) (more : List A) → part ++ tail ≡ front ++ x ∷ more → Overlap A part front x
overlap A [] tail front x more e = beyond front refl
overlap A (p ∷ part) tail [] x more e = let same : p ≡ x = cc in within part (ap (λ (q : A). q ∷ part) same)
overlap A (p ∷ part) tail (f ∷ front) x more e =
    let same : p ≡ f = cc in
    let rest : part ++ tail ≡ front ++ x ∷ more = cc in
    overlap_more A p f part front x same (overlap A part tail front x more rest)

-- how one reader follows another, which has read the first part of a thing: it reads the rest
pub record Follows (X Y : Type 0) (IsX : X → Type 0) (IsY : Y → Type 0) (fields_x : X → List Field) (fields_y : Y → List Field)
    (read_x : List ℕ → Result (X × List ℕ) Stop) (read_y : X → List ℕ → Result (Y × List ℕ) Stop)
    (Has : Y → X → Type 0) (after : Y → List Field) : Type 0 where
  pub first : Reads X IsX fields_x read_x
  pub second : (x : X) → IsX x → Reads Y (λ y. IsY y × Has y x) after (read_y x)
  pub part : (y : Y) → IsY y → (x : X) × IsX x × Has y x
  pub joins : (x : X) (y : Y) → IsX x → IsY y → Has y x → fields_y y ≡ fields_x x ++ after y
  pub fills : (x : X) → IsX x → (y : Y) × IsY y × Has y x

module _ {X Y : Type 0} {IsX : X → Type 0} {IsY : Y → Type 0} {fields_x : X → List Field} {fields_y : Y → List Field}
    {read_x : List ℕ → Result (X × List ℕ) Stop} {read_y : X → List ℕ → Result (Y × List ℕ) Stop}
    {Has : Y → X → Type 0} {after : Y → List Field}
    (two : Follows X Y IsX IsY fields_x fields_y read_x read_y Has after) where
  -- the two readers
  unfoldable pub both : List ℕ → Result (Y × List ℕ) Stop
  both bytes = read_x bytes >>= λ x. read_y x.0 x.1

  -- the first part of two things whose fields begin alike is one
  first_is_one : (x w : X) (a b : List Field) → IsX x → IsX w → fields_x x ++ a ≡ fields_x w ++ b → x ≡ w
  first_is_one x w a b p q e =
      let t : text_of (fields_x x) ++ text_of a ≡ text_of (fields_x w) ++ text_of b = sym (text_of-append (fields_x x) a) ∙ ap text_of e ∙ text_of-append (fields_x w) b in
      let r : read_x (text_of (fields_x x) ++ text_of a) ≡ Ok (w, text_of b) = ap read_x t ∙ two.first.again w (text_of b) q in
      let s : done (x, text_of a) ≡ done (w, text_of b) = sym (two.first.again x (text_of a) p) ∙ r in
      ap (λ (u : X × List ℕ). u.0) (ok_is (x, text_of a) (w, text_of b) s)

  -- what they take is spelled so, and what is spelled so they take
  pub both_found : (bytes : List ℕ) (y : Y) (rest : List ℕ) → AreBytes bytes → both bytes ≡ Ok (y, rest) → IsY y × (bytes ≡ text_of (fields_y y) ++ rest)
  unfolding both
  both_found bytes y rest fit e =
      let b = bind_ok (read_x bytes) (λ x. read_y x.0 x.1) (y, rest) e in
      let f = two.first.found bytes b.0.0 b.0.1 fit b.1 in
      let g = (two.second b.0.0 f.0).found b.0.1 y rest (AreBytes-rest (text_of (fields_x b.0.0)) b.0.1 (rw (← f.1) fit)) b.2 in
      let j = two.joins b.0.0 y f.0 g.0.0 g.0.1 in
      (g.0.0, rw (j, text_of-append (fields_x b.0.0) (after y), append_assoc) (f.1 ∙ ap (λ (t : List ℕ). text_of (fields_x b.0.0) ++ t) g.1))

  pub both_again : (y : Y) (rest : List ℕ) → IsY y → both (text_of (fields_y y) ++ rest) ≡ Ok (y, rest)
  unfolding both
  both_again y rest is =
      let p = two.part y is in
      let split : text_of (fields_y y) ++ rest ≡ text_of (fields_x p.0) ++ (text_of (after y) ++ rest) =
      ap (λ (t : List Field). text_of t ++ rest) (two.joins p.0 y p.1 is p.2) ∙ ap (λ (t : List ℕ). t ++ rest) (text_of-append (fields_x p.0) (after y)) ∙ append_assoc (text_of (fields_x p.0)) (text_of (after y)) rest in
      ap both split ∙ rw (two.first.again p.0 (text_of (after y) ++ rest) p.1) ((two.second p.0 p.1).again y rest (is, p.2))

  -- what is wrong in the first part is wrong in the whole
  first_cut : (bytes : List ℕ) → EndsWithin X IsX fields_x bytes → EndsWithin Y IsY fields_y bytes
  first_cut bytes w =
      let y = two.fills w.thing w.is in
      record {
        thing = y.0;
        is = y.1;
        front = w.front;
        next = w.next;
        more = w.more ++ after y.0;
        opens = two.joins w.thing y.0 w.is y.1 y.2 ∙ ap (λ (t : List Field). t ++ after y.0) w.opens ∙ append_assoc w.front (w.next ∷ w.more) (after y.0);
        rest = w.rest;
        parts = w.parts;
        cut = w.cut;
      }

  -- nothing begins with a wrong field of the first part
  no_first : (x : X) (front : List Field) (next : Field) (more : List Field) (wrong : Field) → IsX x → fields_x x ≡ front ++ next ∷ more → ((other : X) (following : List Field) → IsX other → fields_x other ≢ front ++ wrong ∷ following)
      → (other : Y) (following : List Field) → IsY other → fields_y other ≢ front ++ wrong ∷ following
  no_first x front next more wrong is opens none other following is_y e =
      let p = two.part other is_y in
      let j : fields_x p.0 ++ after other ≡ front ++ wrong ∷ following = sym (two.joins p.0 other p.1 is_y p.2) ∙ e in
      elim (overlap Field (fields_x p.0) (after other) front wrong following j) [
        | within rest f ↦ none p.0 rest p.1 f
        | beyond middle f ↦
            let g : fields_x x ++ [] ≡ fields_x p.0 ++ (middle ++ next ∷ more) = append-nil (fields_x x) ∙ opens ∙ ap (λ (t : List Field). t ++ next ∷ more) f ∙ append_assoc (fields_x p.0) middle (next ∷ more) in
            let same = first_is_one x p.0 [] (middle ++ next ∷ more) is p.1 g in
            let h : fields_x x ++ [] ≡ fields_x x ++ (middle ++ next ∷ more) = g ∙ ap (λ (w : X). fields_x w ++ (middle ++ next ∷ more)) (sym same) in
            let k : [] ≡ middle ++ next ∷ more = append_cancel_left (fields_x x) [] (middle ++ next ∷ more) h in
            absurd (omega (arith, ap length k, length-append middle (next ∷ more)))
      ]

  first_bad : (bytes : List ℕ) (left : ℕ) → IsBadFrom X IsX fields_x bytes left → IsBadFrom Y IsY fields_y bytes left
  first_bad bytes left w =
      let b = w.2 in
      let y = two.fills b.thing b.is in (
        w.0,
        w.1,
        record {
          thing = y.0;
          is = y.1;
          front = b.front;
          next = b.next;
          more = b.more ++ after y.0;
          opens = two.joins b.thing y.0 b.is y.1 y.2 ∙ ap (λ (t : List Field). t ++ after y.0) b.opens ∙ append_assoc b.front (b.next ∷ b.more) (after y.0);
          wrong = b.wrong;
          rest = b.rest;
          parts = b.parts;
          like = b.like;
          place = b.place;
          bad = b.bad;
          at_is = b.at_is;
          none = no_first b.thing b.front b.next b.more b.wrong b.is b.opens b.none;
        },
      )

  -- what is wrong after the first part is wrong in the whole
  then_cut : (bytes : List ℕ) (x : X) (rest : List ℕ) → IsX x → bytes ≡ text_of (fields_x x) ++ rest → EndsWithin Y (λ y. IsY y × Has y x) after rest → EndsWithin Y IsY fields_y bytes
  then_cut bytes x rest is e w =
      record {
        thing = w.thing;
        is = w.is.0;
        front = fields_x x ++ w.front;
        next = w.next;
        more = w.more;
        opens = two.joins x w.thing is w.is.0 w.is.1 ∙ ap (λ (t : List Field). fields_x x ++ t) w.opens ∙ sym (append_assoc (fields_x x) w.front (w.next ∷ w.more));
        rest = w.rest;
        parts = e ∙ ap (λ (t : List ℕ). text_of (fields_x x) ++ t) w.parts ∙ sym (append_assoc (text_of (fields_x x)) (text_of w.front) w.rest) ∙ ap (λ (t : List ℕ). t ++ w.rest) (sym (text_of-append (fields_x x) w.front));
        cut = w.cut;
      }

  -- nothing begins with a wrong field of the rest
  no_second : (x : X) (front : List Field) (wrong : Field) → IsX x → ((other : Y) (following : List Field) → IsY other × Has other x → after other ≢ front ++ wrong ∷ following)
      → (other : Y) (following : List Field) → IsY other → fields_y other ≢ (fields_x x ++ front) ++ wrong ∷ following
  no_second x front wrong is none other following is_y e =
      let p = two.part other is_y in
      let j : fields_x p.0 ++ after other ≡ fields_x x ++ (front ++ wrong ∷ following) = sym (two.joins p.0 other p.1 is_y p.2) ∙ e ∙ append_assoc (fields_x x) front (wrong ∷ following) in
      let same : p.0 ≡ x = first_is_one p.0 x (after other) (front ++ wrong ∷ following) p.1 is j in
      let k : fields_x x ++ after other ≡ fields_x x ++ (front ++ wrong ∷ following) = ap (λ (w : X). fields_x w ++ after other) (sym same) ∙ j in
      none other following (is_y, subst (Has other) same p.2) (append_cancel_left (fields_x x) (after other) (front ++ wrong ∷ following) k)

  then_bad : (bytes : List ℕ) (left : ℕ) (x : X) (rest : List ℕ) → IsX x → bytes ≡ text_of (fields_x x) ++ rest → IsBadFrom Y (λ y. IsY y × Has y x) after rest left → IsBadFrom Y IsY fields_y bytes left
  then_bad bytes left x rest is e w =
      let b = w.2 in
      let n = length (text_of (fields_x x)) in (
        n + w.0,
        omega (arith, w.1, ap length e, length-append (text_of (fields_x x)) rest),
        record {
          thing = b.thing;
          is = b.is.0;
          front = fields_x x ++ b.front;
          next = b.next;
          more = b.more;
          opens = two.joins x b.thing is b.is.0 b.is.1 ∙ ap (λ (t : List Field). fields_x x ++ t) b.opens ∙ sym (append_assoc (fields_x x) b.front (b.next ∷ b.more));
          wrong = b.wrong;
          rest = b.rest;
          parts = e ∙ ap (λ (t : List ℕ). text_of (fields_x x) ++ t) b.parts ∙ sym (append_assoc (text_of (fields_x x)) (text_of b.front) (bytes_of b.wrong ++ b.rest)) ∙ ap (λ (t : List ℕ). t ++ (bytes_of b.wrong ++ b.rest)) (sym (text_of-append (fields_x x) b.front));
          like = b.like;
          place = b.place;
          bad = b.bad;
          at_is = omega (arith, b.at_is, ap length (text_of-append (fields_x x) b.front), length-append (text_of (fields_x x)) (text_of b.front));
          none = no_second x b.front b.wrong is b.none;
        },
      )

  -- where they stop, bytes are wanting or one is bad
  pub both_cut : (bytes : List ℕ) → AreBytes bytes → both bytes ≡ Err Short → EndsWithin Y IsY fields_y bytes
  unfolding both
  both_cut bytes fit e =
      elim (bind_err (read_x bytes) (λ x. read_y x.0 x.1) Short e) [
        | inl f ↦ first_cut bytes (two.first.cut bytes fit f)
        | inr b ↦
            let f = two.first.found bytes b.0.0 b.0.1 fit b.1 in
            then_cut bytes b.0.0 b.0.1 f.0 f.1 ((two.second b.0.0 f.0).cut b.0.1 (AreBytes-rest (text_of (fields_x b.0.0)) b.0.1 (rw (← f.1) fit)) b.2)
      ]

  pub both_bad : (bytes : List ℕ) (left : ℕ) → AreBytes bytes → both bytes ≡ Err (Bad left) → IsBadFrom Y IsY fields_y bytes left
  unfolding both
  both_bad bytes left fit e =
      elim (bind_err (read_x bytes) (λ x. read_y x.0 x.1) (Bad left) e) [
        | inl f ↦ first_bad bytes left (two.first.bad bytes left fit f)
        | inr b ↦
            let f = two.first.found bytes b.0.0 b.0.1 fit b.1 in
            then_bad bytes left b.0.0 b.0.1 f.0 f.1 ((two.second b.0.0 f.0).bad b.0.1 left (AreBytes-rest (text_of (fields_x b.0.0)) b.0.1 (rw (← f.1) fit)) b.2)
      ]
