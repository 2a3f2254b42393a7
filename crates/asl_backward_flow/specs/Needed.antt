-- Which locks a region needs at each of its points (docs/ANALYSIS.md, "Needed locks"). The flow backwards over a section is
-- in the manner of S. Cherem, T. Chilimbi, S. Gulwani, "Inferring Locks for Atomic Sections" (2008); regions of whole bodies
-- and the way over calls are this project's.
use Rattle.std.specs.Prelude.{◌≡◌, ◌≢◌, ◌<◌, ◌↔◌, ℕ, Bool, List, length, Some, slice_get}
use Rattle.std.specs.List.{AllPairs}
use Rattle.asl_code.specs.declared.image.Function as entry
use Rattle.asl_code.specs.declared.instr.Instr.{Instr}
use Rattle.asl_code.specs.declared.instr.Instr.TheVariants as instr
use Rattle.asl_code.specs.declared.lock.Lock.{Lock}
use Rattle.asl_lower.specs.Lowered.{Lowered}
use Rattle.asl_lower.specs.OpenSections.{FlowsTo, start_of}
use Rattle.asl_lower.specs.Regions.{Region, Body, Inside, IsIn}
use Rattle.asl_points_to.specs.Classes.{Classed}
use Rattle.asl_lock_expr.specs.Links.{view, IsOne, link, settle, accesses, renamed, dereferenced}
use Rattle.asl_backward_flow.specs.declared.region.Region as code
use Rattle.asl_backward_flow.specs.declared.region.Region.TheVariants as variant

-- a lock is needed at a point of a region: an access needs it there; or it comes by a link from a point where control goes
-- on; or at a call from the entry of the callee; or something of which it is a dereferenced prefix is needed
pub data Needed (l : Lowered) (c : Classed) (stores : ℕ → ℕ → Bool) (k_limit : ℕ) : Region → ℕ → Lock → Type 0 where
  Accessed : (r : Region) (f pc : ℕ) (i : Instr) (n : Lock) → IsIn l r f pc → slice_get l.code pc ≡ Some i →
      IsOne (accesses (view c stores k_limit f) i) n → Needed l c stores k_limit r pc n
  Linked : (r : Region) (f pc next : ℕ) (i : Instr) (m n : Lock) → IsIn l r f pc → slice_get l.code pc ≡ Some i → FlowsTo i pc next →
      Needed l c stores k_limit r next m → IsOne (link (view c stores k_limit f) i m) n → Needed l c stores k_limit r pc n
  Entered : (r : Region) (f pc to first g : ℕ) (callee : entry.Function) (m p n : Lock) → IsIn l r f pc → slice_get l.code pc ≡ Some (instr.Call to first g) →
      slice_get l.functions g ≡ Some callee → Needed l c stores k_limit (Body g) (start_of l.functions g) m → IsOne (renamed first callee.params m) p →
      IsOne (settle (view c stores k_limit f) p) n → Needed l c stores k_limit r pc n
  Before : (r : Region) (pc : ℕ) (m n : Lock) → Needed l c stores k_limit r pc m → IsOne (dereferenced m) n → Needed l c stores k_limit r pc n

-- the region that a `Region` of the code names
abbrev pub region_of : code.Region → Region
region_of (variant.Body f) = Body f
region_of (variant.Section s) = Inside s

-- a region with its locks, which are numbered, and with the pcs at which each is needed, as pairs of a pc and a number
pub record RegionNeeds : Type 0 where
  pub region : Region
  pub locks : List Lock
  pub needs : List (ℕ × ℕ)

-- the part says that its region needs the lock at the pc
abbrev pub IsInNeeds : RegionNeeds → ℕ → Lock → Type 0
IsInNeeds p pc lock = (n : ℕ) × (k : ℕ) × (slice_get p.needs k ≡ Some (pc, n)) × (slice_get p.locks n ≡ Some lock)

-- the parts say that the region needs the lock at the pc
abbrev pub IsTold : List RegionNeeds → Region → ℕ → Lock → Type 0
IsTold parts r pc lock = (k : ℕ) × (p : RegionNeeds) × (slice_get parts k ≡ Some p) × (p.region ≡ r) × IsInNeeds p pc lock

-- each region has one part, whose locks are different, and each of them is needed somewhere
pub record AreParts (parts : List RegionNeeds) : Type 0 where
  pub distinct : (m n : ℕ) (p q : RegionNeeds) → slice_get parts m ≡ Some p → slice_get parts n ≡ Some q → p.region ≡ q.region → m ≡ n
  pub different : (n : ℕ) (p : RegionNeeds) → slice_get parts n ≡ Some p → AllPairs (λ a b. a ≢ b) p.locks
  pub used : (n i : ℕ) (p : RegionNeeds) (lock : Lock) → slice_get parts n ≡ Some p → slice_get p.locks i ≡ Some lock → (pc : ℕ) × IsInNeeds p pc lock

-- no part is of the region
abbrev pub HasNoPart : List RegionNeeds → Region → Type 0
HasNoPart parts r = (k : ℕ) (p : RegionNeeds) → slice_get parts k ≡ Some p → ¬ (p.region ≡ r)

-- the parts say exactly what is needed
abbrev pub TellsNeeded : Lowered → Classed → (ℕ → ℕ → Bool) → ℕ → List RegionNeeds → Type 0
TellsNeeded l c stores k_limit parts = (r : Region) (pc : ℕ) (lock : Lock) → IsTold parts r pc lock ↔ Needed l c stores k_limit r pc lock

-- the region needs more than 4,096 locks: so many different ones, each at some point
pub record NeedsMany (l : Lowered) (c : Classed) (stores : ℕ → ℕ → Bool) (k_limit : ℕ) (r : Region) : Type 0 where
  pub locks : List Lock
  pub many : 4096 < length locks
  pub different : AllPairs (λ a b. a ≢ b) locks
  pub needed : (n : ℕ) (lock : Lock) → slice_get locks n ≡ Some lock → (pc : ℕ) × Needed l c stores k_limit r pc lock
