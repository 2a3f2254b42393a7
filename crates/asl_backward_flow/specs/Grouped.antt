-- Machinery of the proofs, not of the promise: what is found for a group of sections (src/entry_flow.rt).
use Rattle.std.specs.Prelude.{◌≡◌, ◌+◌, ◌<◌, ◌≤◌, ℕ, Bool, List, [], Some, length, slice_get}
use Rattle.asl_code.specs.declared.lock.Lock.{Lock}
use Rattle.asl_lower.specs.Lowered.{Lowered}
use Rattle.asl_lower.specs.LegalLowering.{IsLegalLowering}
use Rattle.asl_lower.specs.Regions.{Region, Body}
use Rattle.asl_points_to.specs.Classes.{Classed}
use Rattle.asl_backward_flow.specs.declared.span.Span.{Span}
use Rattle.asl_backward_flow.specs.declared.region_needs.RegionNeeds as code
use Rattle.asl_backward_flow.specs.Needed.{RegionNeeds, Needed, NeedsMany, IsInNeeds, region_of}
use Rattle.asl_backward_flow.specs.Flows.{TellsEntries}
use Rattle.asl_backward_flow.specs.Found.{list_at}
use Rattle.asl_backward_flow.specs.Follows.{Read}
use Rattle.asl_backward_flow.specs.Graph.{HasRows, IsJump, IsCall}
use Rattle.asl_backward_flow.specs.Parts.{part}

-- what was read is of a program that was lowered, whatever its spans are, and the regions that have calls
pub record IsBase (r : Read) : Type 0 where
  pub short : r.k_limit ≤ 8
  pub kept : IsLegalLowering r.lowered
  pub jumps : HasRows r.jumps (IsJump r.lowered) (length r.lowered.code)
  pub calls : HasRows r.calls (IsCall r.lowered) (length r.lowered.code)

-- the part is of the span's region, of which it says at the first point what is needed, and elsewhere nothing else; and the region does not
-- need too many locks
pub record IsEntryPart (l : Lowered) (c : Classed) (stores : ℕ → ℕ → Bool) (k_limit : ℕ) (s : Span) (d : code.RegionNeeds) : Type 0 where
  pub region : d.region ≡ s.region
  pub sound : (q : ℕ) (m : Lock) → IsInNeeds (part d) q m → Needed l c stores k_limit (region_of s.region) q m
  pub full : (m : Lock) → Needed l c stores k_limit (region_of s.region) s.first m → IsInNeeds (part d) s.first m
  pub few : ¬ NeedsMany l c stores k_limit (region_of s.region)

-- these are such parts of the first of the spans
abbrev pub AreEntryParts : Read → List Span → List code.RegionNeeds → Type 0
AreEntryParts r spans parts = (k : ℕ) (d : code.RegionNeeds) → slice_get parts k ≡ Some d → (s : Span) × (slice_get spans k ≡ Some s) × IsEntryPart r.lowered r.classes r.stores r.k_limit s d

-- no body needs too many locks
abbrev pub HasFewInBodies : Read → Type 0
HasFewInBodies r = (g : ℕ) → ¬ NeedsMany r.lowered r.classes r.stores r.k_limit (Body g)

-- the set of what a part says at the pc
pub record IsEntrySet (pc : ℕ) (d : code.RegionNeeds) (set : List Bool) : Type 0 where
  pub here : (k : ℕ) → pc ≡ d.first + k → set ≡ list_at d.needs.items k
  pub none : pc < d.first → set ≡ []

-- the second part says at the pc what the first says there, and elsewhere no more
pub record IsShorter (pc : ℕ) (d e : code.RegionNeeds) : Type 0 where
  pub region : e.region ≡ d.region
  pub within : (q : ℕ) (m : Lock) → IsInNeeds (part e) q m → IsInNeeds (part d) q m
  pub here : (m : Lock) → IsInNeeds (part d) pc m → IsInNeeds (part e) pc m

-- the parts say exactly what each section needs at its first point, and no region needs too many locks
pub record TellsAllEntries (r : Read) (parts : List RegionNeeds) : Type 0 where
  pub tells : TellsEntries r.lowered r.classes r.stores r.k_limit parts
  pub few : (region : Region) → ¬ NeedsMany r.lowered r.classes r.stores r.k_limit region
