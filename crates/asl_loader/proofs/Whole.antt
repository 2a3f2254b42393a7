-- Reading all the bytes of a thing, as an image or a journal: what is answered is the thing that they spell, or the first
-- thing that is wrong with them; and what is so is answered.
use Rattle.std.proofs.Common.{◌≡◌, ◌≢◌, ℕ, ◌-◌, ◌≤◌, ◌<◌, Bool, true, false, eqb, List, [], ◌++◌, length, take, drop, Result, Ok, Err, refl, sym, ap, ap₂, subst, ◌∙◌, inl, inr, arith, lit<, length-append}
use Rattle.std.specs.Prelude.{All}
use Rattle.std.proofs.lemmas.Bool.{cases_lt, eqb-true}
use Rattle.std.proofs.lemmas.List.{append-nil, nil_from_length, take_at, length-take, length-drop, take-append-drop, get_or_past}
use Rattle.std.proofs.lemmas.List.Elements.{All-get_or}
use Rattle.asl_code.specs.Spelling.{instr_bytes}
use Rattle.asl_code.proofs.Instrs.{instr_bytes-eight}
use Rattle.asl_code.proofs.Values.{AreBytes}
use Rattle.asl_loader.specs.Bytes.{Field, Plain, Eight, bytes_of, text_of, EndsWithin, HasBadByte, IsBadByte}
use Rattle.asl_loader.specs.ImageFields.{ended, whole_from}
use Rattle.asl_loader.specs.declared.fault.Stop.{Stop}
use Rattle.asl_loader.specs.declared.fault.Stop.TheVariants.{Short, Bad}
use Rattle.asl_loader.proofs.Reader.{Reads}

-- numbers below 256 are bytes
pub are_bytes : (bytes : List ℕ) → All (λ b. b < 256) bytes → AreBytes bytes
are_bytes bytes all i =
    elim (cases_lt i (length bytes)) [
      | inl lt ↦ All-get_or (λ (b : ℕ). b < 256) bytes i 0 lt all
      | inr le ↦ rw (get_or_past bytes i 0 le) (lit< tt)
    ]

-- a bad byte is one of its field
place_within : (field : Field) (place : ℕ) → IsBadByte field place → place ≤ length (bytes_of field)
place_within (Plain bytes) place bad = omega (arith, bad)
place_within (Eight bytes) place bad =
    let w = bad.before in
    let eight = instr_bytes-eight w.0 w.1 in
    omega (arith, bad.is_field, eight.len, length-take place (instr_bytes w.0), length-take place bytes, ap length w.2)

-- The fault tells the first thing that is wrong with the bytes: they end within a field, have a bad byte, or continue after
-- the thing.
pub data IsWrong (X F : Type 0) (Is : X → Type 0) (fields_of : X → List Field) (cut bad trailing : ℕ → F) (bytes : List ℕ) (f : F) : Type 0 where
  ends_within : EndsWithin X Is fields_of bytes → f ≡ cut (length bytes) → IsWrong X F Is fields_of cut bad trailing bytes f
  has_bad : (at : ℕ) → HasBadByte X Is fields_of bytes at → f ≡ bad at → IsWrong X F Is fields_of cut bad trailing bytes f
  goes_on : (at : ℕ) (x : X) → at < length bytes → Is x → take at bytes ≡ text_of (fields_of x) → f ≡ trailing at → IsWrong X F Is fields_of cut bad trailing bytes f

module _ (X F : Type 0) (Is : X → Type 0) (fields_of : X → List Field) (reader : List ℕ → Result (X × List ℕ) Stop) (reads : Reads X Is fields_of reader) where
  pub rest_within : (bytes : List ℕ) (x : X) (rest : List ℕ) → AreBytes bytes → reader bytes ≡ Ok (x, rest) → length rest ≤ length bytes
  rest_within bytes x rest fit e =
      let f = reads.found bytes x rest fit e in
      omega (arith, ap length f.1, length-append (text_of (fields_of x)) rest)

  pub left_within : (bytes : List ℕ) (left : ℕ) → AreBytes bytes → reader bytes ≡ Err (Bad left) → left ≤ length bytes
  left_within bytes left fit e = let b = reads.bad bytes left fit e in omega (arith, b.1)

  bad_within : (bytes : List ℕ) (at : ℕ) → HasBadByte X Is fields_of bytes at → at ≤ length bytes
  bad_within bytes at bad =
      let low = place_within bad.wrong bad.place bad.bad in
      omega (arith, low, bad.at_is, ap length bad.parts, length-append (text_of bad.front) (bytes_of bad.wrong ++ bad.rest), length-append (bytes_of bad.wrong) bad.rest)

  abbrev answered : X → Result X F
  answered x = Ok x

  abbrev refused : F → Result X F
  refused f = Err f

  module _ (cut bad trailing : ℕ → F) where
    abbrev Wrong : List ℕ → F → Type 0
    Wrong bytes f = IsWrong X F Is fields_of cut bad trailing bytes f

    abbrev whole : List ℕ → Result X F
    whole bytes = whole_from cut bad trailing (length bytes) (reader bytes)

    ended_ok : (x : X) (left len : ℕ) (b : Bool) → eqb left 0 ≡ b → (y : X) → ended trailing x left len ≡ Ok y → (left ≡ 0) × (x ≡ y)
    ended_ok x left len true t y e = let both : answered x ≡ answered y = rw t at e in (eqb-true left 0 t, cc)
    ended_ok x left len false t y e = let both : refused (trailing (len - left)) ≡ answered y = rw t at e in absurd cc

    ended_err : (x : X) (left len : ℕ) (b : Bool) → eqb left 0 ≡ b → (f : F) → ended trailing x left len ≡ Err f → (left ≢ 0) × (f ≡ trailing (len - left))
    ended_err x left len true t f e = let both : answered x ≡ refused f = rw t at e in absurd cc
    ended_err x left len false t f e = let both : refused (trailing (len - left)) ≡ refused f = rw t at e in (λ z. let y : eqb left 0 ≡ true = rw z refl in absurd cc, cc)

    still_left : (x : X) (left len : ℕ) → left ≢ 0 → ended trailing x left len ≡ Err (trailing (len - left))
    still_left x left len some = by_test (eqb left 0) refl
      where
        by_test : (p : Bool) → eqb left 0 ≡ p → ended trailing x left len ≡ Err (trailing (len - left))
        by_test true e = absurd (some (eqb-true left 0 e))
        by_test false e = rw e refl

    found_from : (bytes : List ℕ) (r : Result (X × List ℕ) Stop) (y : X) → AreBytes bytes → reader bytes ≡ r → whole_from cut bad trailing (length bytes) r ≡ Ok y → Is y × (bytes ≡ text_of (fields_of y))
    found_from bytes (Ok x) y fit r e =
        let w = ended_ok x.0 (length x.1) (length bytes) (eqb (length x.1) 0) refl y e in
        let f = reads.found bytes x.0 x.1 fit r in
        let nothing : x.1 ≡ [] = nil_from_length x.1 w.0 in
        let spelled : bytes ≡ text_of (fields_of x.0) = f.1 ∙ ap (λ (t : List ℕ). text_of (fields_of x.0) ++ t) nothing ∙ append-nil (text_of (fields_of x.0)) in
        subst (λ (z : X). Is z × (bytes ≡ text_of (fields_of z))) w.1 (f.0, spelled)
    found_from bytes (Err Short) y fit r e = absurd cc
    found_from bytes (Err (Bad left)) y fit r e = absurd cc

    pub whole_found : (bytes : List ℕ) (x : X) → AreBytes bytes → whole bytes ≡ Ok x → Is x × (bytes ≡ text_of (fields_of x))
    whole_found bytes x fit e = found_from bytes (reader bytes) x fit refl e

    pub whole_again : (bytes : List ℕ) (x : X) → Is x → bytes ≡ text_of (fields_of x) → whole bytes ≡ Ok x
    whole_again bytes x is spelled =
        let r : reader bytes ≡ Ok (x, []) = ap reader (spelled ∙ sym (append-nil (text_of (fields_of x)))) ∙ reads.again x [] is in
        ap (whole_from cut bad trailing (length bytes)) r

    refused_from : (bytes : List ℕ) (r : Result (X × List ℕ) Stop) (f : F) → AreBytes bytes → reader bytes ≡ r → whole_from cut bad trailing (length bytes) r ≡ Err f → Wrong bytes f
    refused_from bytes (Ok x) f fit r e =
        let w = ended_err x.0 (length x.1) (length bytes) (eqb (length x.1) 0) refl f e in
        let g = reads.found bytes x.0 x.1 fit r in
        let text = text_of (fields_of x.0) in
        let len : length bytes - length x.1 ≡ length text = omega (arith, ap length g.1, length-append text x.1) in
        let front : take (length bytes - length x.1) bytes ≡ text = ap₂ (λ (n : ℕ) (t : List ℕ). take n t) len g.1 ∙ take_at text x.1 (length text) refl in
        let short : length bytes - length x.1 < length bytes = omega (arith, w.0, ap length g.1, length-append text x.1) in
        goes_on (length bytes - length x.1) x.0 short g.0 front w.1
    refused_from bytes (Err Short) f fit r e =
        let same : cut (length bytes) ≡ f = let both : refused (cut (length bytes)) ≡ refused f = e in cc in
        ends_within (reads.cut bytes fit r) (sym same)
    refused_from bytes (Err (Bad left)) f fit r e =
        let same : bad (length bytes - left) ≡ f = let both : refused (bad (length bytes - left)) ≡ refused f = e in cc in
        let b = reads.bad bytes left fit r in
        let at : b.0 ≡ length bytes - left = omega (arith, b.1) in
        has_bad b.0 b.2 (sym same ∙ ap bad (sym at))

    pub whole_refused : (bytes : List ℕ) (f : F) → AreBytes bytes → whole bytes ≡ Err f → Wrong bytes f
    whole_refused bytes f fit e = refused_from bytes (reader bytes) f fit refl e

    pub refused_again : (bytes : List ℕ) (f : F) → AreBytes bytes → Wrong bytes f → whole bytes ≡ Err f
    refused_again bytes f fit (ends_within within e) = ap (whole_from cut bad trailing (length bytes)) (reads.cut_again bytes within) ∙ ap (λ (g : F). Err g) (sym e)
    refused_again bytes f fit (has_bad at byte e) =
        let within = bad_within bytes at byte in
        let stopped = reads.bad_again bytes (length bytes - at) fit (at, omega arith, byte) in
        let back : length bytes - (length bytes - at) ≡ at = omega arith in
        ap (whole_from cut bad trailing (length bytes)) stopped ∙ ap (λ (n : ℕ). Err (bad n)) back ∙ ap (λ (g : F). Err g) (sym e)
    refused_again bytes f fit (goes_on at x lt is spelled e) =
        let split : bytes ≡ text_of (fields_of x) ++ drop at bytes = sym (take-append-drop at bytes) ∙ ap (λ (t : List ℕ). t ++ drop at bytes) spelled in
        let read : reader bytes ≡ Ok (x, drop at bytes) = ap reader split ∙ reads.again x (drop at bytes) is in
        let left : length (drop at bytes) ≡ length bytes - at = length-drop at bytes in
        let some : length (drop at bytes) ≢ 0 = omega arith in
        let back : length bytes - length (drop at bytes) ≡ at = omega arith in
        ap (whole_from cut bad trailing (length bytes)) read ∙ still_left x (length (drop at bytes)) (length bytes) some
        ∙ ap (λ (n : ℕ). Err (trailing n)) back ∙ ap (λ (g : F). Err g) (sym e)
