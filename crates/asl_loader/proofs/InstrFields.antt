-- The reader of an instruction reads its field of eight bytes, and refuses the first byte that no instruction has there.
use Rattle.std.proofs.Common.{◌≡◌, ◌≢◌, ℕ, ◌-◌, ◌≤◌, ◌<◌, List, [], ◌++◌, length, take, drop, Result, Ok, Err, refl, sym, ap, ap₂, subst, ◌∙◌, arith, inl, inr, length-append}
use Rattle.std.proofs.lemmas.Bool.{cases_lt}
use Rattle.std.proofs.lemmas.List.{take_at, drop_at, take-append-drop, length-take, append-nil}
use Rattle.asl_code.specs.declared.instr.Instr.{Instr}
use Rattle.asl_code.specs.declared.instr.Instr.TheVariants.{Release}
use Rattle.asl_code.specs.Reading.{instr_of}
use Rattle.asl_code.specs.Spelling.{instr_bytes, IsInstr, SpellsInstr, IsFirstBadField}
use Rattle.asl_code.proofs.Instrs.{instr_of-found, instr_of-again, instr_of-refused, instr_bytes-eight, answer_is}
use Rattle.asl_loader.specs.Bytes.{Field, Eight, bytes_of, text_of, instr_fields, EndsWithin, IsLike, IsBadByte}
use Rattle.asl_loader.specs.declared.fault.Stop.{Stop}
use Rattle.asl_loader.specs.declared.fault.Stop.TheVariants.{Short, Bad}
use Rattle.asl_loader.specs.ImageFields.{instr_at, judged}
use Rattle.asl_code.proofs.Values.{AreBytes}
use Rattle.asl_loader.proofs.Eight.{eight_are, instr_at-long, instr_at-short}
use Rattle.asl_loader.proofs.Reader.{Reads, IsBadFrom, done, ok_is}
use Rattle.asl_loader.proofs.FieldNumbers.{one_field, like_eight}

abbrev failed : Stop → Result (Instr × List ℕ) Stop
failed stop = Err stop

-- what is told of the answer on eight bytes
judged_ok : (len : ℕ) (rest : List ℕ) (r : Result Instr ℕ) (x : Instr × List ℕ) → judged len rest r ≡ Ok x → (i : Instr) × (r ≡ Ok i) × ((i, rest) ≡ x)
judged_ok len rest (Ok i) x e = (i, refl, ok_is (i, rest) x e)
judged_ok len rest (Err place) x e = absurd cc

judged_short : (len : ℕ) (rest : List ℕ) (r : Result Instr ℕ) → judged len rest r ≢ Err Short
judged_short len rest (Ok i) e = absurd cc
judged_short len rest (Err place) e = let same : Bad (len - place) ≡ Short = cc in absurd cc

judged_bad : (len : ℕ) (rest : List ℕ) (r : Result Instr ℕ) (left : ℕ) → judged len rest r ≡ Err (Bad left) → (place : ℕ) × (r ≡ Err place) × (left ≡ len - place)
judged_bad len rest (Ok i) left e = absurd cc
judged_bad len rest (Err place) left e = let same : Bad (len - place) ≡ Bad left = cc in (place, refl, cc)

-- the reader stops for want of bytes where there are fewer than eight
instr_short : (bytes : List ℕ) → instr_at bytes ≡ Err Short → length bytes < 8
instr_short bytes e =
    elim (cases_lt (length bytes) 8) [
      | inl lt ↦ lt
      | inr long ↦ absurd (judged_short (length bytes) (drop 8 bytes) (instr_of (take 8 bytes)) (sym (instr_at-long bytes long) ∙ e))
    ]

instr_long : (bytes : List ℕ) → (instr_at bytes ≡ Err Short → ⊥) → 8 ≤ length bytes
instr_long bytes h =
    elim (cases_lt (length bytes) 8) [
      | inl lt ↦ absurd (h (instr_at-short bytes lt))
      | inr long ↦ long
    ]

-- what it takes is spelled so, and what is spelled so it takes
instr_found : (bytes : List ℕ) (x : Instr) (rest : List ℕ) → AreBytes bytes → instr_at bytes ≡ Ok (x, rest) → IsInstr x × (bytes ≡ text_of (instr_fields x) ++ rest)
instr_found bytes x rest fit e =
    let long = instr_long bytes (λ s. let both : done (x, rest) ≡ Err Short = sym e ∙ s in absurd cc) in
    let j = judged_ok (length bytes) (drop 8 bytes) (instr_of (take 8 bytes)) (x, rest) (sym (instr_at-long bytes long) ∙ e) in
    let same : j.0 ≡ x = ap (λ (p : Instr × List ℕ). p.0) j.2 in
    let left : drop 8 bytes ≡ rest = ap (λ (p : Instr × List ℕ). p.1) j.2 in
    let s : SpellsInstr x (take 8 bytes) = subst (λ (i : Instr). SpellsInstr i (take 8 bytes)) same (instr_of-found (take 8 bytes) j.0 (eight_are bytes long fit) j.1) in
    (s.fits, sym (take-append-drop 8 bytes) ∙ ap₂ (λ (a b : List ℕ). a ++ b) (s.spelled ∙ sym (append-nil (instr_bytes x))) left)

instr_again : (x : Instr) (rest : List ℕ) → IsInstr x → instr_at (text_of (instr_fields x) ++ rest) ≡ Ok (x, rest)
instr_again x rest is =
    let eight = instr_bytes-eight x is in
    let text : text_of (instr_fields x) ++ rest ≡ instr_bytes x ++ rest = ap (λ (t : List ℕ). t ++ rest) (append-nil (instr_bytes x)) in
    let long : 8 ≤ length (instr_bytes x ++ rest) = omega (arith, eight.len, length-append (instr_bytes x) rest) in
    let front : take 8 (instr_bytes x ++ rest) ≡ instr_bytes x = take_at (instr_bytes x) rest 8 eight.len in
    let back : drop 8 (instr_bytes x ++ rest) ≡ rest = drop_at (instr_bytes x) rest 8 eight.len in
    let reads : instr_of (instr_bytes x) ≡ Ok x = instr_of-again (instr_bytes x) x eight (record { fits = is; spelled = refl }) in
    ap instr_at text ∙ instr_at-long (instr_bytes x ++ rest) long ∙ ap₂ (λ (a : Result Instr ℕ) (b : List ℕ). judged (length (instr_bytes x ++ rest)) b a) (ap instr_of front ∙ reads) back

-- where it stops, bytes are wanting or one is bad
instr_cut : (bytes : List ℕ) → AreBytes bytes → instr_at bytes ≡ Err Short → EndsWithin Instr IsInstr instr_fields bytes
instr_cut bytes fit e = record {
  thing = Release;
  is = tt;
  front = [];
  next = Eight (instr_bytes Release);
  more = [];
  opens = refl;
  rest = bytes;
  parts = refl;
  cut = instr_short bytes e;
}

instr_bad : (bytes : List ℕ) (left : ℕ) → AreBytes bytes → instr_at bytes ≡ Err (Bad left) → IsBadFrom Instr IsInstr instr_fields bytes left
instr_bad bytes left fit e =
    let long = instr_long bytes (λ s. let both : failed (Bad left) ≡ failed Short = sym e ∙ s in let same : Bad left ≡ Short = cc in absurd cc) in
    let j = judged_bad (length bytes) (drop 8 bytes) (instr_of (take 8 bytes)) left (sym (instr_at-long bytes long) ∙ e) in
    let refused = instr_of-refused (take 8 bytes) j.0 (eight_are bytes long fit) j.1 in (
      j.0,
      omega (arith, j.2, refused.is_field, long),
      record {
        thing = Release;
        is = tt;
        front = [];
        next = Eight (instr_bytes Release);
        more = [];
        opens = refl;
        wrong = Eight (take 8 bytes);
        rest = drop 8 bytes;
        parts = sym (take-append-drop 8 bytes);
        like = omega (arith, length-take 8 bytes, long);
        place = j.0;
        bad = refused;
        at_is = omega arith;
        none = λ other following is same.
            let spelled : take 8 bytes ≡ instr_bytes other = cc in
            let again : instr_of (take 8 bytes) ≡ Ok other = instr_of-again (take 8 bytes) other (eight_are bytes long fit) (record { fits = is; spelled = spelled }) in
            let refusal : instr_of (take 8 bytes) ≡ Err j.0 = j.1 in
            absurd cc;
      },
    )

-- and the other way round
instr_cut_again : (bytes : List ℕ) → EndsWithin Instr IsInstr instr_fields bytes → instr_at bytes ≡ Err Short
instr_cut_again bytes w =
    let o = one_field (Eight (instr_bytes w.thing)) w.front w.next w.more w.opens in
    let all_left : bytes ≡ w.rest = w.parts ∙ ap (λ (t : List Field). text_of t ++ w.rest) o.0 in
    let len : length (instr_bytes w.thing) ≡ length (bytes_of w.next) = ap (λ (f : Field). length (bytes_of f)) o.1 in
    let eight = instr_bytes-eight w.thing w.is in
    instr_at-short bytes (omega (arith, w.cut, len, eight.len, ap length all_left))

instr_bad_again : (bytes : List ℕ) (left : ℕ) → AreBytes bytes → IsBadFrom Instr IsInstr instr_fields bytes left → instr_at bytes ≡ Err (Bad left)
instr_bad_again bytes left fit v =
    let w = v.2 in
    let o = one_field (Eight (instr_bytes w.thing)) w.front w.next w.more w.opens in
    let like : IsLike (Eight (instr_bytes w.thing)) w.wrong = subst (λ (f : Field). IsLike f w.wrong) (sym o.1) w.like in
    let p = like_eight (instr_bytes w.thing) w.wrong like in
    let parts : bytes ≡ p.0 ++ w.rest = w.parts ∙ ap₂ (λ (t : List Field) (f : Field). text_of t ++ (bytes_of f ++ w.rest)) o.0 p.1 in
    let eight = instr_bytes-eight w.thing w.is in
    let wide : length p.0 ≡ 8 = sym p.2 ∙ eight.len in
    let long : 8 ≤ length bytes = omega (arith, wide, ap length parts, length-append p.0 w.rest) in
    let front : take 8 bytes ≡ p.0 = ap (take 8) parts ∙ take_at p.0 w.rest 8 wide in
    let bad : IsFirstBadField (take 8 bytes) w.place = subst (λ (t : List ℕ). IsFirstBadField t w.place) (sym front) (subst (λ (f : Field). IsBadByte f w.place) p.1 w.bad) in
    let nothing : length (text_of w.front) ≡ 0 = ap (λ (t : List Field). length (text_of t)) o.0 in
    let answer : Err w.place ≡ instr_of (take 8 bytes) = answer_is (take 8 bytes) (Err w.place) (eight_are bytes long fit) tt bad in
    let at : length bytes - w.place ≡ left = omega (arith, v.1, w.at_is, nothing) in
    instr_at-long bytes long ∙ ap (judged (length bytes) (drop 8 bytes)) (sym answer) ∙ ap (λ (n : ℕ). Err (Bad n)) at

pub instr_reads : Reads Instr IsInstr instr_fields instr_at
instr_reads = record { found = instr_found; again = instr_again; cut = instr_cut; bad = instr_bad; cut_again = instr_cut_again; bad_again = instr_bad_again }
