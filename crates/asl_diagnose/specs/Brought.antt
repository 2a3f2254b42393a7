-- Statements that bring most of the locks of a region (docs/SOURCE.md, "Reading a refusal").
use Rattle.std.specs.Prelude.{◌≡◌, ℕ, ◌<◌, ◌≤◌, ◌⊎◌, false, List, length, Some, slice_get, slice_index}
use Rattle.asl_syntax.specs.Tree.{Item}
use Rattle.asl_syntax.specs.Parsed.{Parses}
use Rattle.asl_lower.specs.Regions.{Region}
use Rattle.asl_emitter.specs.Inferred.{ClassedProgram}
use Rattle.asl_backward_flow.specs.declared.region.Region as code
use Rattle.asl_backward_flow.specs.Needed.{RegionNeeds, HasNoPart, region_of}
use Rattle.asl_backward_flow.specs.Flows.{IsFlow}
use Rattle.asl_diagnose.specs.declared.most.Bringers.{Bringers}
use Rattle.asl_diagnose.specs.InferPlaces.{IsRegionPlace}
use Rattle.asl_diagnose_text.specs.Statements.{closes, tokens_between, AreStatements}

-- a blank, a `0` or a `;`
abbrev pub IsFilling : ℕ → Type 0
IsFilling b = (b ≡ 32) ⊎ ((b ≡ 48) ⊎ (b ≡ 59))

-- a byte is kept, or it stands from the one place on and before the other, and filling stands for it
abbrev pub IsKept : ℕ → ℕ → ℕ → ℕ → ℕ → Type 0
IsKept from to at old new = (old ≡ new) ⊎ ((from ≤ at) × (at < to) × IsFilling new)

-- a text in which filling stands for bytes between two places, and else the text
pub record IsFilledIn (text : List ℕ) (from to : ℕ) (rest : List ℕ) : Type 0 where
  pub len : length rest ≡ length text
  pub each : (at : ℕ) → at < length text → IsKept from to at (slice_index text at) (slice_index rest at)

-- the parts of a flow have so many locks for a region: as many as its part, and none where no part is of the region
abbrev pub HasLocks : List RegionNeeds → Region → ℕ → Type 0
HasLocks parts r count =
    ((at : ℕ) × (p : RegionNeeds) × (slice_get parts at ≡ Some p) × (p.region ≡ r) × (count ≡ length p.locks))
    ⊎ (HasNoPart parts r × (count ≡ 0))

-- the program has this flow
pub record HasFlow (tree : List Item) (k : ℕ) (parts : List RegionNeeds) : Type 0 where
  pub program : ClassedProgram tree
  pub flow : IsFlow program.lowering program.classes k parts

-- a text is a program of which a region needs so many locks
pub record NeedsSoMany (text : List ℕ) (k : ℕ) (region : code.Region) (count : ℕ) : Type 0 where
  pub tree : List Item
  pub parses : Parses text tree
  pub parts : List RegionNeeds
  pub flow : HasFlow tree k parts
  pub locks : HasLocks parts (region_of region) count

-- what stands from the one place to the other is in the region: after the word that it begins with, and before the `}` of its block
pub record IsInRegion (text : List ℕ) (region : code.Region) (from to : ℕ) : Type 0 where
  pub word : ℕ
  pub place : IsRegionPlace text region word
  pub behind : word < from
  pub within : closes 0 (tokens_between word to text) ≡ false

-- assignments and stores of the region: with filling for them the text is a program still, of which the region needs few locks, and so
-- many
pub record AreBringers (text : List ℕ) (k : ℕ) (region : code.Region) (b : Bringers) : Type 0 where
  pub statements : AreStatements text b.from b.to b.count
  pub inside : IsInRegion text region b.from b.to
  pub rest : List ℕ
  pub filled : IsFilledIn text b.from b.to rest
  pub needs : NeedsSoMany rest k region b.left
  pub few : b.left ≤ 2048
