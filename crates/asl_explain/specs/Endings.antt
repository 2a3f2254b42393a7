-- Machinery of the proofs, not of the promise: the locks of a section by their numbers in the flow (src/ended.rt).
use Rattle.std.specs.Prelude.{◌≡◌, ℕ, List, Some, slice_get}
use Rattle.asl_code.specs.declared.lock.Lock.{Lock}
use Rattle.asl_lower.specs.Regions.{Inside}
use Rattle.asl_backward_flow.specs.Needed.{RegionNeeds}
use Rattle.asl_explain.specs.declared.explain_analysis.ExplainAnalysis.{ExplainAnalysis}
use Rattle.asl_explain.specs.Chains.{Read, IsDropped}

-- the number is one of the list
abbrev pub Has : ℕ → List ℕ → Type 0
Has x xs = (n : ℕ) × (slice_get xs n ≡ Some x)

-- the flow has the section of a number at the place
abbrev pub IsPlaceOf : ExplainAnalysis → ℕ → ℕ → Type 0
IsPlaceOf a number place = (p : RegionNeeds) × (slice_get a.flow place ≡ Some p) × (p.region ≡ Inside number)

-- there it has the lock by this number
abbrev pub IsLockAt : ExplainAnalysis → ℕ → ℕ → ℕ → Lock → Type 0
IsLockAt a number place which lock =
    (p : RegionNeeds) × (slice_get a.flow place ≡ Some p) × (p.region ≡ Inside number) × (slice_get p.locks which ≡ Some lock)

-- the lock ends at a `new` of the section
abbrev pub EndsSomewhere : Read → ℕ → Lock → Type 0
EndsSomewhere x section lock = (pc : ℕ) × IsDropped x section pc lock
