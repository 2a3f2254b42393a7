-- Machinery of the proofs, not of the promise: needed locks with shorter paths than there may be (src/short_paths.rt).
-- Where all needed locks are so, longer paths change no list, and the table of k need not infer them.
use Rattle.std.specs.Prelude.{◌≡◌, ◌<◌, ℕ, List, length, Some, slice_get}
use Rattle.asl_code.specs.declared.lock.Lock.{Lock}
use Rattle.asl_code.specs.declared.lock.Lock.TheVariants.{Root, Class, Expr}
use Rattle.asl_lower.specs.Regions.{Region, Inside, Body}
use Rattle.asl_backward_flow.specs.Needed.{RegionNeeds, IsTold}
use Rattle.asl_explain.specs.Chains.{Read, Needs}

-- an expression has fewer operations than so many
abbrev pub IsBelow : ℕ → Lock → Type 0
IsBelow limit (Expr e effect) = length e.path < limit
IsBelow limit (Class class effect) = Unit {0}
IsBelow limit (Root effect) = Unit {0}

-- so each of these locks
abbrev pub AreBelow : ℕ → List Lock → Type 0
AreBelow limit locks = (n : ℕ) (lock : Lock) → slice_get locks n ≡ Some lock → IsBelow limit lock

-- so each lock that the parts tell of a region
abbrev pub IsRegionBelow : List RegionNeeds → ℕ → Region → Type 0
IsRegionBelow parts limit r = (pc : ℕ) (lock : Lock) → IsTold parts r pc lock → IsBelow limit lock

-- so of the first sections, and of the bodies of the first functions, so many of them
abbrev pub AreSectionsBelow : List RegionNeeds → ℕ → ℕ → Type 0
AreSectionsBelow parts limit so_many = (n : ℕ) → n < so_many → IsRegionBelow parts limit (Inside n)

-- each expression that the parts tell of the bodies of the first functions, so many of them, has fewer operations than the limit
abbrev pub AreBodiesBelow : List RegionNeeds → ℕ → ℕ → Type 0
AreBodiesBelow parts limit so_many = (n : ℕ) → n < so_many → IsRegionBelow parts limit (Body n)

-- so each lock that is needed
abbrev pub AreNeedsBelow : Read → ℕ → Type 0
AreNeedsBelow x limit = (r : Region) (pc : ℕ) (lock : Lock) → Needs x r pc lock → IsBelow limit lock
