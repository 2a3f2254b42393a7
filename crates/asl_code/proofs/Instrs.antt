-- What is answered of eight bytes is the instruction that they spell, or the first bad field. Bytes spell at most one instruction, it
-- is spelled by them alone, and one field is the first bad one.
use Rattle.std.proofs.Common.{◌≡◌, ℕ, zero, suc, ◌+◌, ◌*◌, ◌<◌, ◌≤◌, ◌^◌, true, ltb, List, [], ◌∷◌, length, take, get_or, Result, Ok, Err, refl, sym, ap, ◌∙◌, arith, inl, inr, w32, lit<}
use Rattle.std.specs.Prelude.{IfOk, IfErr}
use Rattle.std.specs.Int.{to_be_bytes}
use Rattle.std.proofs.lemmas.Bool.{lt-ltb, cases_order}
use Rattle.std.proofs.lemmas.List.{take-take}
use Rattle.std.proofs.lemmas.Nat.{be_bytes_4}
use Rattle.asl_code.specs.declared.instr.Instr.{Instr}
use Rattle.asl_code.specs.Spelling.{eight_bytes, instr_bytes, IsInstr, SpellsInstr, field_end, IsFirstBadField, InstrOfSpellingIsOne, SpellingOfInstrIsOne, FirstBadFieldIsOne}
use Rattle.asl_code.specs.Reading.{instr_of_fields, instr_of}
use Rattle.asl_code.proofs.GoodRows.{refused, accepted, AreFields}
use Rattle.asl_code.proofs.RowReadings.{read_of, instr_again}
use Rattle.asl_code.proofs.RowRefusals.{instr_found, instr_refused}

-- these are eight bytes
pub record AreEight (bytes : List ℕ) : Type 0 where
  pub len : length bytes ≡ 8
  pub fit : (i : ℕ) → get_or bytes i 0 < 256

-- the fields of eight bytes spell them
pub eight_are : (bytes : List ℕ) (d : ℕ) → AreEight bytes → d ≡ get_or bytes 4 0 * 16777216 + get_or bytes 5 0 * 65536 + get_or bytes 6 0 * 256 + get_or bytes 7 0 → bytes ≡ eight_bytes (get_or bytes 0 0) (get_or bytes 1 0) (get_or bytes 2 0) (get_or bytes 3 0) d
eight_are (op ∷ a ∷ b ∷ c ∷ d0 ∷ d1 ∷ d2 ∷ d3 ∷ []) d is e =
    let tail : to_be_bytes w32 d ≡ d0 ∷ d1 ∷ d2 ∷ d3 ∷ [] = be_bytes_4 (d0 ∷ d1 ∷ d2 ∷ d3 ∷ []) d refl (λ i. is.fit (suc (suc (suc (suc i))))) e in
    ap (λ (t : List ℕ). op ∷ a ∷ b ∷ c ∷ t) (sym tail)
eight_are (op ∷ a ∷ b ∷ c ∷ d0 ∷ d1 ∷ d2 ∷ d3 ∷ x ∷ xs) d is e = absurd (omega (arith, is.len))
eight_are [] d is e = absurd (omega (arith, is.len))
eight_are (op ∷ []) d is e = absurd (omega (arith, is.len))
eight_are (op ∷ a ∷ []) d is e = absurd (omega (arith, is.len))
eight_are (op ∷ a ∷ b ∷ []) d is e = absurd (omega (arith, is.len))
eight_are (op ∷ a ∷ b ∷ c ∷ []) d is e = absurd (omega (arith, is.len))
eight_are (op ∷ a ∷ b ∷ c ∷ d0 ∷ []) d is e = absurd (omega (arith, is.len))
eight_are (op ∷ a ∷ b ∷ c ∷ d0 ∷ d1 ∷ []) d is e = absurd (omega (arith, is.len))
eight_are (op ∷ a ∷ b ∷ c ∷ d0 ∷ d1 ∷ d2 ∷ []) d is e = absurd (omega (arith, is.len))

-- and each fits its bytes
pub fields_are : (bytes : List ℕ) (d : ℕ) → AreEight bytes → d < 2 ^ 32 → AreFields (get_or bytes 0 0) (get_or bytes 1 0) (get_or bytes 2 0) (get_or bytes 3 0) d
fields_are bytes d is fd = record { op_fits = is.fit 0; a_fits = is.fit 1; b_fits = is.fit 2; c_fits = is.fit 3; d_fits = fd }

-- the clauses of get_instr, of what instr_of_fields answered
pub is_found : (bytes : List ℕ) (r : Result Instr ℕ) (op a b c d : ℕ) → AreFields op a b c d → bytes ≡ eight_bytes op a b c d → r ≡ instr_of_fields op a b c d → IfOk r (λ i. SpellsInstr i bytes)
is_found bytes (Ok i) op a b c d fields e f = rw e (instr_found i op a b c d fields (sym f))
is_found bytes (Err place) op a b c d fields e f = tt

pub is_refused : (bytes : List ℕ) (r : Result Instr ℕ) (op a b c d : ℕ) → AreFields op a b c d → bytes ≡ eight_bytes op a b c d → r ≡ instr_of_fields op a b c d → IfErr r (λ place. IsFirstBadField bytes place)
is_refused bytes (Ok i) op a b c d fields e f = tt
is_refused bytes (Err place) op a b c d fields e f = rw e (instr_refused op a b c d place fields (sym f))

-- and an instruction that the bytes spell is what is answered
pub is_read : (bytes : List ℕ) (r : Result Instr ℕ) (op a b c d : ℕ) (i : Instr) → AreFields op a b c d → bytes ≡ eight_bytes op a b c d → r ≡ instr_of_fields op a b c d → SpellsInstr i bytes → r ≡ Ok i
is_read bytes r op a b c d i fields e f s = f ∙ instr_again i op a b c d fields (rw e at s)

-- the laws: both ways there is one
pub instr_is_one : InstrOfSpellingIsOne
instr_is_one i j bytes p q =
    let a = read_of i p.fits in
    let first : instr_of_fields a.op a.a a.b a.c a.d ≡ Ok i = instr_again i a.op a.a a.b a.c a.d a.fields (record { fits = p.fits; spelled = sym a.bytes }) in
    let second : instr_of_fields a.op a.a a.b a.c a.d ≡ Ok j = instr_again j a.op a.a a.b a.c a.d a.fields (record { fits = q.fits; spelled = sym a.bytes ∙ sym p.spelled ∙ q.spelled }) in
    let both : accepted i ≡ accepted j = sym first ∙ second in
    cc

-- an instruction has one spelling
pub spelling_is_one : SpellingOfInstrIsOne
spelling_is_one i bytes others p q = p.spelled ∙ sym q.spelled

-- of two first bad fields neither is before the other
not_before : (bytes : List ℕ) (place other : ℕ) → place < other → IsFirstBadField bytes place → IsFirstBadField bytes other → ⊥
not_before bytes place other lt p q =
    let w = q.before in
    let early : ltb place 4 ≡ true = lt-ltb place 4 (omega (arith, q.is_field)) in
    let end : field_end place ≡ place + 1 = rw early refl in
    let within : place + 1 ≤ other = omega arith in
    let same : take (place + 1) (instr_bytes w.0) ≡ take (place + 1) bytes =
    sym (take-take (place + 1) other (instr_bytes w.0) within) ∙ ap (take (place + 1)) w.2 ∙ take-take (place + 1) other bytes within in
    p.here w.0 w.1 (rw end same)

pub place_is_one : FirstBadFieldIsOne
place_is_one bytes place other p q =
    elim (cases_order place other) [
      | inl same ↦ same
      | inr (inl below) ↦ absurd (not_before bytes place other below p q)
      | inr (inr above) ↦ absurd (not_before bytes other place above q p)
    ]

-- ---- the eight bytes as a list, for the crates above

-- the last four bytes are one field
instr_of_is : (bytes : List ℕ) (is : AreEight bytes) → (d : ℕ) × (d < 2 ^ 32) × (bytes ≡ eight_bytes (get_or bytes 0 0) (get_or bytes 1 0) (get_or bytes 2 0) (get_or bytes 3 0) d) × (instr_of bytes ≡ instr_of_fields (get_or bytes 0 0) (get_or bytes 1 0) (get_or bytes 2 0) (get_or bytes 3 0) d)
instr_of_is (op ∷ a ∷ b ∷ c ∷ d0 ∷ d1 ∷ d2 ∷ d3 ∷ []) is =
    let d = d0 * 16777216 + d1 * 65536 + d2 * 256 + d3 in
    (d, omega (arith, is.fit 4, is.fit 5, is.fit 6, is.fit 7), eight_are (op ∷ a ∷ b ∷ c ∷ d0 ∷ d1 ∷ d2 ∷ d3 ∷ []) d is refl, refl)
instr_of_is (op ∷ a ∷ b ∷ c ∷ d0 ∷ d1 ∷ d2 ∷ d3 ∷ x ∷ xs) is = absurd (omega (arith, is.len))
instr_of_is [] is = absurd (omega (arith, is.len))
instr_of_is (op ∷ []) is = absurd (omega (arith, is.len))
instr_of_is (op ∷ a ∷ []) is = absurd (omega (arith, is.len))
instr_of_is (op ∷ a ∷ b ∷ []) is = absurd (omega (arith, is.len))
instr_of_is (op ∷ a ∷ b ∷ c ∷ []) is = absurd (omega (arith, is.len))
instr_of_is (op ∷ a ∷ b ∷ c ∷ d0 ∷ []) is = absurd (omega (arith, is.len))
instr_of_is (op ∷ a ∷ b ∷ c ∷ d0 ∷ d1 ∷ []) is = absurd (omega (arith, is.len))
instr_of_is (op ∷ a ∷ b ∷ c ∷ d0 ∷ d1 ∷ d2 ∷ []) is = absurd (omega (arith, is.len))

pub instr_of-found : (bytes : List ℕ) (i : Instr) → AreEight bytes → instr_of bytes ≡ Ok i → SpellsInstr i bytes
instr_of-found bytes i is e =
    let w = instr_of_is bytes is in
    rw w.2 (instr_found i _ _ _ _ w.0 (fields_are bytes w.0 is w.1) (sym w.3 ∙ e))

pub instr_of-again : (bytes : List ℕ) (i : Instr) → AreEight bytes → SpellsInstr i bytes → instr_of bytes ≡ Ok i
instr_of-again bytes i is s =
    let w = instr_of_is bytes is in
    w.3 ∙ instr_again i _ _ _ _ w.0 (fields_are bytes w.0 is w.1) (record { fits = s.fits; spelled = sym w.2 ∙ s.spelled })

pub instr_of-refused : (bytes : List ℕ) (place : ℕ) → AreEight bytes → instr_of bytes ≡ Err place → IsFirstBadField bytes place
instr_of-refused bytes place is e =
    let w = instr_of_is bytes is in
    rw w.2 (instr_refused _ _ _ _ w.0 place (fields_are bytes w.0 is w.1) (sym w.3 ∙ e))

-- eight bytes of fields that fit are bytes
eight_fit : (op a b c d : ℕ) → AreFields op a b c d → (k : ℕ) → get_or (eight_bytes op a b c d) k 0 < 256
eight_fit op a b c d f zero = f.op_fits
eight_fit op a b c d f (suc zero) = f.a_fits
eight_fit op a b c d f (suc (suc zero)) = f.b_fits
eight_fit op a b c d f (suc (suc (suc zero))) = f.c_fits
eight_fit op a b c d f (suc (suc (suc (suc zero)))) = omega arith
eight_fit op a b c d f (suc (suc (suc (suc (suc zero))))) = omega arith
eight_fit op a b c d f (suc (suc (suc (suc (suc (suc zero)))))) = omega arith
eight_fit op a b c d f (suc (suc (suc (suc (suc (suc (suc zero))))))) = omega arith
eight_fit op a b c d f (suc (suc (suc (suc (suc (suc (suc (suc k)))))))) = lit< tt

refused_as : (bytes : List ℕ) (place : ℕ) → AreEight bytes → IsFirstBadField bytes place → (r : Result Instr ℕ) → instr_of bytes ≡ r → instr_of bytes ≡ Err place
refused_as bytes place is bad (Ok i) e =
    let s = instr_of-found bytes i is e in
    absurd (bad.here i s.fits (ap (take (field_end place)) (sym s.spelled)))
refused_as bytes place is bad (Err other) e =
    let one = place_is_one bytes other place (instr_of-refused bytes other is e) bad in
    e ∙ ap refused one

-- the bytes of an instruction are eight bytes
pub instr_bytes-eight : (i : Instr) → IsInstr i → AreEight (instr_bytes i)
instr_bytes-eight i fits =
    let q = read_of i fits in
    rw q.bytes (record { len = refl; fit = λ k. eight_fit q.op q.a q.b q.c q.d q.fields k })

-- what get_instr answers is what instr_of computes
pub answer_is : (bytes : List ℕ) (r : Result Instr ℕ) → AreEight bytes → IfOk r (λ i. SpellsInstr i bytes) → IfErr r (λ place. IsFirstBadField bytes place) → r ≡ instr_of bytes
answer_is bytes (Ok i) is found bad = sym (instr_of-again bytes i is found)
answer_is bytes (Err place) is found bad = sym (refused_as bytes place is bad (instr_of bytes) refl)
