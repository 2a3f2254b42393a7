-- The first steps of a schedule, as many as a journal has.
use Rattle.std.proofs.Common.{◌≡◌, ℕ, ◌≤◌, List, length, take, min, sym, ◌∙◌, ap, arith, inl, inr}
use Rattle.std.proofs.lemmas.Bool.{cases_lt}
use Rattle.std.proofs.lemmas.List.{take_all}

-- so many first steps as there are, but no more than the most, are the first steps
pub first_steps : (n k : ℕ) (s : List ℕ) → k ≡ min (length s) n → take k s ≡ take n s
first_steps n k s e =
    elim (cases_lt n (length s)) [
      | inl more ↦ ap (λ (m : ℕ). take m s) (let most : k ≡ n = omega (arith, e, more) in most)
      | inr few ↦ take_all k s (omega (arith, e, few)) ∙ sym (take_all n s few)
    ]

pub few_steps : (n k : ℕ) (s : List ℕ) → k ≡ min (length s) n → length s ≤ n → take k s ≡ s
few_steps n k s e few = take_all k s (omega (arith, e, few))
