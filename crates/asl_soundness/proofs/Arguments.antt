-- The registers of a new frame: arguments in its parameters, and 0 in every other.
use Rattle.std.proofs.Common.{◌≡◌, ℕ, zero, suc, pos, ◌+◌, ◌-◌, ◌<◌, ◌≤◌, ◌⊎◌, ◌++◌, replicate, take, drop, List, [], ◌∷◌, Some, None, length, slice_get, refl, ap, sym, ◌∙◌, inl, inr, arith}
use Rattle.std.specs.Prelude.{option_and_then}
use Rattle.asl_code.proofs.Told.{slice_get-drop}
use Rattle.asl_code.specs.declared.value.Value.{Value}
use Rattle.asl_code.specs.declared.value.Value.TheVariants.{Int}
use Rattle.asl_expression.specs.Expression.{pointed}
use Rattle.asl_machine.specs.Calls.{first_registers, values_from}
use Rattle.asl_machine.proofs.Lists.{get_before, replicated}
use Rattle.asl_soundness.proofs.Protecting.{get_within}

-- what stands in a list or after it
pub filled : (xs : List Value) (m r : ℕ) (z v : Value) → slice_get (xs ++ replicate m z) r ≡ Some v → (slice_get xs r ≡ Some v) ⊎ (v ≡ z)
filled [] m r z v e = inr (replicated m r z v e)
filled (x ∷ xs) m zero z v e = inl e
filled (x ∷ xs) m (suc r) z v e = filled xs m r z v e

taken_from : (k : ℕ) (xs : List Value) (r : ℕ) (v : Value) → slice_get (take k xs) r ≡ Some v → (r < k) × (slice_get xs r ≡ Some v)
taken_from zero xs r v e = cc
taken_from (suc k) [] r v e = cc
taken_from (suc k) (x ∷ xs) zero v e = (omega arith, e)
taken_from (suc k) (x ∷ xs) (suc r) v e = let i = taken_from k xs r v e in (let lt = i.0 in omega arith, i.1)

-- what a register of a new frame holds was in its argument register, or is the integer 0
pub passed : (regs : List Value) (first params count r : ℕ) (v : Value) → slice_get (first_registers (values_from regs first params) count) r ≡ Some v →
    ((r < params) × (slice_get regs (first + r) ≡ Some v)) ⊎ (v ≡ Int (pos 0))
passed regs first params count r v e =
    elim (filled (values_from regs first params) (count - length (values_from regs first params)) r (Int (pos 0)) v e) [
      | inl argument ↦ (let from = taken_from params (drop first regs) r v argument in inl (from.0, sym (slice_get-drop first regs r) ∙ from.1))
      | inr is ↦ inr is
    ]

taken_at : (k : ℕ) (xs : List Value) (r : ℕ) → r < k → slice_get (take k xs) r ≡ slice_get xs r
taken_at zero xs r lt = absurd (omega (arith, lt))
taken_at (suc k) [] r lt = refl
taken_at (suc k) (x ∷ xs) zero lt = refl
taken_at (suc k) (x ∷ xs) (suc r) lt = taken_at k xs r (omega (arith, lt))

-- a parameter has the value of its argument register
pub parameter_value : (regs : List Value) (first params count r : ℕ) → first + params ≤ length regs → r < params → slice_get (first_registers (values_from regs first params) count) r ≡ slice_get regs (first + r)
parameter_value regs first params count r le lt =
    let v = get_within regs (first + r) (omega (arith, le, lt)) in
    let taken : slice_get (values_from regs first params) r ≡ Some v.0 = taken_at params (drop first regs) r lt ∙ slice_get-drop first regs r ∙ v.1 in
    get_before (values_from regs first params) _ r v.0 taken ∙ sym v.1

-- every other register points nowhere
pub other_value : (regs : List Value) (first params count r : ℕ) → params ≤ r → option_and_then pointed (slice_get (first_registers (values_from regs first params) count) r) ≡ None
other_value regs first params count r le =
    elim (slice_get (first_registers (values_from regs first params) count) r) as (λ o. slice_get (first_registers (values_from regs first params) count) r ≡ o → option_and_then pointed o ≡ None) [
      | None ↦ λ is. refl
      | Some v ↦ λ is. elim (passed regs first params count r v is) [
        | inl from ↦ absurd (let lt = from.0 in omega (arith, lt, le))
        | inr zero_is ↦ ap pointed zero_is
      ]
    ] refl
