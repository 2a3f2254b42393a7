-- Machinery of the proofs, not of the promise: what is found, region by region (src/flow.rt).
use Rattle.std.specs.Prelude.{◌≡◌, ◌⊎◌, ◌↔◌, ◌<◌, ◌+◌, ℕ, Bool, List, [], ◌∷◌, ◌++◌, Some, map, slice_get}
use Rattle.asl_code.specs.declared.lock.Lock.{Lock}
use Rattle.asl_lane_sets.specs.NumberSet.{members_of}
use Rattle.asl_lock_expr.specs.Links.{IsOne}
use Rattle.asl_backward_flow.specs.declared.region_needs.RegionNeeds as code
use Rattle.asl_lower.specs.Regions.{Region, Inside}
use Rattle.asl_backward_flow.specs.declared.fault.FlowFault.{FlowFault}
use Rattle.asl_backward_flow.specs.declared.fault.FlowFault.TheVariants.{TooManyLocks, OutOfMemory}
use Rattle.asl_backward_flow.specs.Needed.{RegionNeeds, IsInNeeds, TellsNeeded, AreParts, NeedsMany, region_of}
use Rattle.asl_backward_flow.specs.Follows.{Read}

-- the needs that sets tell, where the first is that of the first pc
abbrev pub needs_from : ℕ → List (List Bool) → List (ℕ × ℕ)
needs_from first [] = []
needs_from first (set ∷ sets) = map (λ n. (first, n)) (members_of set) ++ needs_from (first + 1) sets

-- what the code found for a region, with its sets as pairs of a pc and a lock's number
abbrev pub part : code.RegionNeeds → RegionNeeds
part p = record { region = region_of p.region; locks = p.locks.keys; needs = needs_from p.first p.needs.items }

-- the part of a section stands at the section's number
abbrev pub AreAtTheirNumbers : List RegionNeeds → Type 0
AreAtTheirNumbers parts = (k n : ℕ) (p : RegionNeeds) → slice_get parts k ≡ Some p → p.region ≡ Inside n → k ≡ n

-- the parts say exactly what is needed, each region in one, and no region needs too many locks
pub record TellsAll (r : Read) (parts : List RegionNeeds) : Type 0 where
  pub tells : TellsNeeded r.lowered r.classes r.stores r.k_limit parts
  pub apart : AreParts parts
  pub few : (region : Region) → ¬ NeedsMany r.lowered r.classes r.stores r.k_limit region

-- the region that is named needs too many locks
abbrev pub HasMany : Read → FlowFault → Type 0
HasMany r (TooManyLocks region) = NeedsMany r.lowered r.classes r.stores r.k_limit (region_of region)
HasMany r OutOfMemory = Unit {0}

-- the lock at a place of a list of numbers
abbrev pub IsNumbered : List Lock → List ℕ → ℕ → Lock → Type 0
IsNumbered locks numbers k lock = (n : ℕ) × (slice_get numbers k ≡ Some n) × (slice_get locks n ≡ Some lock)

-- the part at a place says that the region needs the lock at the pc
abbrev pub IsToldAt : List RegionNeeds → Region → ℕ → ℕ → Lock → Type 0
IsToldAt parts r pc k lock = (p : RegionNeeds) × (slice_get parts k ≡ Some p) × (p.region ≡ r) × IsInNeeds p pc lock

-- the list has the first locks, and what each place below a number says
abbrev pub ListsBelow : (ℕ → Lock → Type 0) → ℕ → List Lock → List Lock → Type 0
ListsBelow each below first locks = (m : Lock) → IsOne locks m ↔ (IsOne first m ⊎ ((k : ℕ) × (k < below) × each k m))
