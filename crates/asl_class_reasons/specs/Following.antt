-- Machinery of the proofs, not of the promise: the steps that follow from first reasons, as src/following.rt has them, and trees of
-- places, as src/join_numbers.rt goes through them. What they are good for is said by the clauses of the calls that use them.
use Rattle.std.specs.Prelude.{◌≡◌, ◌≢◌, ◌<◌, ◌≤◌, ℕ, zero, suc, List, Some, slice_get, take, unwrap_or}
use Rattle.asl_lower.specs.Lowered.{Lowered}
use Rattle.asl_class_reasons.specs.declared.place.Step.{Step}
use Rattle.asl_class_reasons.specs.declared.following.Shown.{Shown}
use Rattle.asl_class_reasons.specs.declared.join_numbers.JoinNumbers.{JoinNumbers}
use Rattle.asl_class_reasons.specs.Draft.{number}
use Rattle.asl_class_reasons.specs.Reasons.{IsReasoned}

-- each of the steps is reasoned by as many of the first reasons as it says
abbrev pub AreFollowing : Lowered → List Step → List Shown → Type 0
AreFollowing l reasons items = (n : ℕ) (s : Shown) → slice_get items n ≡ Some s → IsReasoned l (take s.before reasons) s.step

-- the place above another, and the number of the step that put it there
abbrev pub above_of : JoinNumbers → ℕ → ℕ
above_of j a = unwrap_or (slice_get j.above.items a) a

abbrev pub number_of : JoinNumbers → ℕ → ℕ
number_of j a = unwrap_or (slice_get j.numbers.items a) 18446744073709551615

-- so many steps up, each with a number below `k`, lead from one place to another
abbrev pub IsBelow : JoinNumbers → ℕ → ℕ → ℕ → ℕ → Type 0
IsBelow j k zero a b = a ≡ b
IsBelow j k (suc n) a b = (number_of j a < k) × IsBelow j k n (above_of j a) b

-- as far up as steps with numbers below `k` lead
abbrev pub IsRootAt : JoinNumbers → ℕ → ℕ → ℕ → Type 0
IsRootAt j k a b = (n : ℕ) × IsBelow j k n a b × (k ≤ number_of j b)

-- two places are in one tree, as far as steps with numbers below `k` made it
abbrev pub HaveOneRoot : JoinNumbers → ℕ → ℕ → ℕ → Type 0
HaveOneRoot j k a b = (z : ℕ) × IsRootAt j k a z × IsRootAt j k b z

-- they are in two
abbrev pub HaveTwoRoots : JoinNumbers → ℕ → ℕ → ℕ → Type 0
HaveTwoRoots j k a b = (x : ℕ) × (y : ℕ) × IsRootAt j k a x × IsRootAt j k b y × (x ≢ y)

-- one tree has the places of each of the first so many steps, once it was made
abbrev pub AreInTrees : JoinNumbers → ℕ → List Step → ℕ → Type 0
AreInTrees j members steps count =
    (n : ℕ) (s : Step) → n < count → slice_get steps n ≡ Some s → HaveOneRoot j (suc n) (number members s.from) (number members s.into)
