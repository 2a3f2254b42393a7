-- What the flow of a program is, and when there is none (docs/ANALYSIS.md, "Needed locks").
use Rattle.std.specs.Prelude.{◌≡◌, ◌↔◌, ℕ, suc, Bool, List, Some, slice_get}
use Rattle.asl_code.specs.declared.lock.Lock.{Lock}
use Rattle.asl_lower.specs.declared.section.Section.{Section}
use Rattle.asl_lower.specs.Lowered.{Lowered}
use Rattle.asl_lower.specs.Regions.{Region, Inside}
use Rattle.asl_points_to.specs.Classes.{Classed}
use Rattle.asl_lock_expr.specs.ClassOf.{TellsStores}
use Rattle.asl_backward_flow.specs.declared.fault.FlowFault.{FlowFault}
use Rattle.asl_backward_flow.specs.declared.fault.FlowFault.TheVariants.{TooManyLocks, OutOfMemory}
use Rattle.asl_backward_flow.specs.Needed.{RegionNeeds, Needed, IsTold, TellsNeeded, AreParts, NeedsMany, region_of}

-- the parts say exactly what is needed, where functions store to their written classes, each region in one part, with no lock
-- twice and none that is needed nowhere; and no region needs too many locks
pub record IsFlow (l : Lowered) (c : Classed) (k_limit : ℕ) (parts : List RegionNeeds) : Type 0 where
  pub stores : ℕ → ℕ → Bool
  pub written : TellsStores l c stores
  pub tells : TellsNeeded l c stores k_limit parts
  pub apart : AreParts parts
  pub few : (r : Region) → ¬ NeedsMany l c stores k_limit r

-- the parts say exactly what each section needs at its first point
abbrev pub TellsEntries : Lowered → Classed → (ℕ → ℕ → Bool) → ℕ → List RegionNeeds → Type 0
TellsEntries l c stores k_limit parts = (n : ℕ) (s : Section) (lock : Lock) → slice_get l.sections n ≡ Some s →
    IsTold parts (Inside n) (suc s.acquire) lock ↔ Needed l c stores k_limit (Inside n) (suc s.acquire) lock

-- the same for first points of sections alone, where functions store to their written classes; and no region needs too many locks
pub record IsEntryFlow (l : Lowered) (c : Classed) (k_limit : ℕ) (parts : List RegionNeeds) : Type 0 where
  pub stores : ℕ → ℕ → Bool
  pub written : TellsStores l c stores
  pub tells : TellsEntries l c stores k_limit parts
  pub few : (r : Region) → ¬ NeedsMany l c stores k_limit r

-- the region that is named needs too many locks
pub record IsOverfull (l : Lowered) (c : Classed) (k_limit : ℕ) (r : Region) : Type 0 where
  pub stores : ℕ → ℕ → Bool
  pub written : TellsStores l c stores
  pub many : NeedsMany l c stores k_limit r

-- there is no flow for this reason
abbrev pub IsRefusedFlow : Lowered → Classed → ℕ → FlowFault → Type 0
IsRefusedFlow l c k_limit (TooManyLocks region) = IsOverfull l c k_limit (region_of region)
IsRefusedFlow l c k_limit OutOfMemory = Unit {0}
