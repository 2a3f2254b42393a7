-- Lengths of paths that are too long.
use Rattle.std.proofs.Common.{◌≡◌, ◌<◌, ◌≤◌, ◌+◌, ◌⊎◌, ℕ, List, inl, inr, subst, arith}
use Rattle.std.proofs.Math.Nat.{eq-or-lt_of_le}
use Rattle.asl_backward_flow.specs.declared.region.Region.{Region}
use Rattle.asl_emitter.specs.declared.fault.InferFault.TheVariants as infer
use Rattle.asl_emitter.specs.Sources.{HasRefusedTree}
use Rattle.asl_explain.specs.declared.fault.ExplainFault.{ExplainFault}
use Rattle.asl_explain.specs.declared.fault.ExplainFault.TheVariants.{Source, Infer}
use Rattle.asl_explain.specs.Explained.{IsRefusedExplanation}
use Rattle.asl_lists.specs.Lengths.{AreTooLong, IsTooMany}

-- where some region needs too many locks, the refusal names it
too_many : (source : List ℕ) (k : ℕ) (fault : ExplainFault) → IsTooMany fault → IsRefusedExplanation source k fault → (region : Region) × HasRefusedTree source k (infer.TooManyLocks region)
too_many source k (Source cause) t r = absurd t
too_many source k (Infer (infer.Registers function)) t r = absurd t
too_many source k (Infer infer.CodeSize) t r = absurd t
too_many source k (Infer (infer.AccessOutsideSection function pc)) t r = absurd t
too_many source k (Infer infer.TooManyClasses) t r = absurd t
too_many source k (Infer (infer.TooManyLocks region)) t r = (region, r)
too_many source k (Infer infer.OutOfMemory) t r = absurd t

at_or_above : (source : List ℕ) (k n : ℕ) → AreTooLong source k → (region : Region) × HasRefusedTree source k (infer.TooManyLocks region) → n ≤ 8 → (k ≡ n) ⊎ (k < n)
    → (region : Region) × HasRefusedTree source n (infer.TooManyLocks region)
at_or_above source k n above here small (inl same) = subst (λ m. (region : Region) × HasRefusedTree source m (infer.TooManyLocks region)) same here
at_or_above source k n above here small (inr more) = above n more small

-- so it is with one operation less
pub one_fewer : (source : List ℕ) (k j : ℕ) → k ≤ j + 1 → AreTooLong source k → (region : Region) × HasRefusedTree source k (infer.TooManyLocks region) → AreTooLong source j
one_fewer source k j below above here = λ n more small. at_or_above source k n above here small (eq-or-lt_of_le (omega (arith, more, below)))

pub one_less : (source : List ℕ) (k j : ℕ) (fault : ExplainFault) → k ≤ j + 1 → AreTooLong source k → IsTooMany fault → IsRefusedExplanation source k fault → AreTooLong source j
one_less source k j fault below above t r = one_fewer source k j below above (too_many source k fault t r)

-- none are longer than eight
pub none_longer : (source : List ℕ) (k : ℕ) → 8 ≤ k → AreTooLong source k
none_longer source k long = λ n more small. absurd (omega (arith, long, more, small))
