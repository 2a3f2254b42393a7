-- Reading the eight bytes of an instruction.
use Rattle.std.proofs.Common.{◌≡◌, ℕ, ◌-◌, ◌≤◌, ◌<◌, true, false, ltb, List, [], ◌∷◌, length, take, drop, get_or, Result, Ok, Err, refl, sym, ap, ◌∙◌, arith, inl, inr, lit<}
use Rattle.std.specs.Prelude.{IfOk, IfErr}
use Rattle.std.proofs.lemmas.Bool.{cases_lt, le-ltb, lt-ltb}
use Rattle.std.proofs.lemmas.List.{length-take, get_or-take, get_or_past}
use Rattle.asl_code.specs.declared.instr.Instr.{Instr}
use Rattle.asl_code.specs.Reading.{instr_of}
use Rattle.asl_code.specs.Spelling.{SpellsInstr, IsFirstBadField}
use Rattle.asl_code.proofs.Instrs.{AreEight, answer_is}
use Rattle.asl_code.proofs.Values.{AreBytes}
use Rattle.asl_loader.specs.declared.fault.Stop.TheVariants.{Short, Bad}
use Rattle.asl_loader.specs.ImageFields.{instr_at, judged}

pub AreBytes-take : (n : ℕ) (bytes : List ℕ) → AreBytes bytes → AreBytes (take n bytes)
AreBytes-take n bytes h i =
    elim (cases_lt i n) [
      | inl lt ↦ rw (get_or-take n bytes i 0 lt) (h i)
      | inr le ↦ rw (get_or_past (take n bytes) i 0 (omega (arith, length-take n bytes))) (lit< tt)
    ]

pub eight_are : (bytes : List ℕ) → 8 ≤ length bytes → AreBytes bytes → AreEight (take 8 bytes)
eight_are bytes long fit = record { len = omega (arith, length-take 8 bytes); fit = AreBytes-take 8 bytes fit }

pub eight_taken : (bytes : List ℕ) → 8 ≤ length bytes → get_or bytes 0 0 ∷ get_or bytes 1 0 ∷ get_or bytes 2 0 ∷ get_or bytes 3 0 ∷ get_or bytes 4 0 ∷ get_or bytes 5 0 ∷ get_or bytes 6 0 ∷ get_or bytes 7 0 ∷ [] ≡ take 8 bytes
eight_taken (a ∷ b ∷ c ∷ d ∷ e ∷ f ∷ g ∷ h ∷ rest) long = refl
eight_taken [] long = absurd (omega arith)
eight_taken (a ∷ []) long = absurd (omega arith)
eight_taken (a ∷ b ∷ []) long = absurd (omega arith)
eight_taken (a ∷ b ∷ c ∷ []) long = absurd (omega arith)
eight_taken (a ∷ b ∷ c ∷ d ∷ []) long = absurd (omega arith)
eight_taken (a ∷ b ∷ c ∷ d ∷ e ∷ []) long = absurd (omega arith)
eight_taken (a ∷ b ∷ c ∷ d ∷ e ∷ f ∷ []) long = absurd (omega arith)
eight_taken (a ∷ b ∷ c ∷ d ∷ e ∷ f ∷ g ∷ []) long = absurd (omega arith)

-- where there are eight bytes, they are judged
pub instr_at-long : (bytes : List ℕ) → 8 ≤ length bytes → instr_at bytes ≡ judged (length bytes) (drop 8 bytes) (instr_of (take 8 bytes))
unfolding instr_at
instr_at-long bytes long = let late : ltb (length bytes) 8 ≡ false = le-ltb _ _ long in rw late refl

pub instr_at-short : (bytes : List ℕ) → length bytes < 8 → instr_at bytes ≡ Err Short
unfolding instr_at
instr_at-short bytes low = let early : ltb (length bytes) 8 ≡ true = lt-ltb _ _ low in rw early refl

module _ (bytes front : List ℕ) (long : 8 ≤ length bytes) (fit : AreBytes bytes) (taken : front ≡ take 8 bytes) (r : Result Instr ℕ) (found : IfOk r (λ i. SpellsInstr i front)) (refused : IfErr r (λ place. IsFirstBadField front place)) where
  computed : r ≡ instr_of (take 8 bytes)
  computed = rw (← taken) (answer_is front r (rw taken (eight_are bytes long fit)) found refused)

  pub gives_ok : (i : Instr) → r ≡ Ok i → instr_at bytes ≡ Ok (i, drop 8 bytes)
  gives_ok i e = instr_at-long bytes long ∙ ap (judged (length bytes) (drop 8 bytes)) (sym computed ∙ e)

  pub gives_err : (place : ℕ) → r ≡ Err place → instr_at bytes ≡ Err (Bad (length bytes - place))
  gives_err place e = instr_at-long bytes long ∙ ap (judged (length bytes) (drop 8 bytes)) (sym computed ∙ e)
