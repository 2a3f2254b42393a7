-- Machinery of the proofs, not of the promise: what is known of an analysis (src/explain_analysis.rt).
use Rattle.std.specs.Prelude.{◌≡◌, ◌↔◌, ◌<◌, ◌≤◌, ◌⊎◌, ℕ, List, [], ◌∷◌, length, map, Some, IfSome, slice_get}
use Rattle.std.specs.List.{All}
use Rattle.asl_code.specs.declared.instr.Instr.{Instr}
use Rattle.asl_code.specs.declared.instr.Instr.TheVariants.{New, Release}
use Rattle.asl_code.specs.declared.lock.Lock.{Lock}
use Rattle.asl_lower.specs.declared.section.Section.{Section}
use Rattle.asl_syntax.specs.Tree.{Item}
use Rattle.asl_syntax.specs.Parsed.{Parses}
use Rattle.asl_lower.specs.Lowered.{Lowered, IsLowering}
use Rattle.asl_lower.specs.OpenSections.{FlowsTo}
use Rattle.asl_lower.specs.Regions.{IsIn}
use Rattle.asl_points_to.specs.Classes.{Classed, AreClasses}
use Rattle.asl_emitter.specs.Refused.{IsAccepted}
use Rattle.asl_lock_expr.specs.Links.{LinkContext, IsOne, link}
use Rattle.asl_lock_expr.specs.Order.{AreInOrder}
use Rattle.asl_lock_expr.specs.Stores.{stores}
use Rattle.asl_lock_expr.specs.ClassOf.{TellsStores}
use Rattle.asl_backward_flow.specs.Needed.{TellsNeeded, region_of}
use Rattle.asl_explain.specs.declared.explain_analysis.ExplainAnalysis.{ExplainAnalysis}
use Rattle.asl_backward_flow.specs.Needed.{RegionNeeds}
use Rattle.asl_backward_flow.specs.Flows.{IsFlow, IsOverfull}
use Rattle.asl_emitter.specs.BuiltImage.{AreFitted}
use Rattle.asl_explain.specs.declared.explained_value.Listed.{Listed}
use Rattle.asl_explain.specs.declared.explained_value.Ended.{Ended}
use Rattle.asl_explain.specs.declared.explained_value.Lists.{Lists}
use Rattle.asl_explain.specs.declared.explained_value.Lists.TheVariants.{Inferred, TooManyLocks}
use Rattle.asl_explain.specs.declared.explained_value.Explanation.{Explanation}
use Rattle.asl_explain.specs.declared.walk.Span.{Span}
use Rattle.asl_explain.specs.declared.stretch.Stretch.{Stretch}
use Rattle.asl_explain.specs.Chains.{Read, Stays}
use Rattle.asl_explain.specs.Explained.{IsListed, IsEnding, AreEnded, AreAllEnded}

-- what the needs of an analysis are read against
abbrev pub read : ExplainAnalysis → Read
read a = record { lowered = a.lowering; classes = a.classes; stores = stores a.writes; k_limit = a.k_limit }

-- its flow tells what is needed, and is that of its length; its sets tell where functions store to
pub record IsAnalysed (a : ExplainAnalysis) : Type 0 where
  pub short : a.k_limit ≤ 8
  pub written : TellsStores a.lowering a.classes (stores a.writes)
  pub tells : TellsNeeded a.lowering a.classes (stores a.writes) a.k_limit a.flow
  pub flow : IsFlow a.lowering a.classes a.k_limit a.flow

-- the locks of a section's list, in their order, with what each covers
pub record AreListed (x : Read) (section : ℕ) (is : Section) (list : List Lock) (ls : List Listed) : Type 0 where
  pub locks : map (λ (d : Listed). d.lock) ls ≡ list
  pub each : (n : ℕ) (d : Listed) → slice_get ls n ≡ Some d → IsListed x section is d

-- so of the first sections, so many of them
pub record AreSections (x : Read) (lists : List (List Lock)) (so_many : ℕ) (sections : List (List Listed)) : Type 0 where
  pub count : length sections ≡ so_many
  pub each : (n : ℕ) (is : Section) (list : List Lock) (ls : List Listed) → slice_get x.lowered.sections n ≡ Some is → slice_get lists n ≡ Some list →
      slice_get sections n ≡ Some ls → AreListed x n is list ls

-- the locks that end in the first sections, so many of them
pub record AreEndedBelow (x : Read) (so_many : ℕ) (sections : List (List Ended)) : Type 0 where
  pub count : length sections ≡ so_many
  pub each : (section : ℕ) (ended : List Ended) → slice_get sections section ≡ Some ended → AreEnded x section ended

-- these locks; and where one is told to end, it ends there
pub record AreEndedOf (x : Read) (section : ℕ) (locks : List Lock) (ended : List Ended) : Type 0 where
  pub same : map (λ (e : Ended). e.lock) ended ≡ locks
  pub told : (n : ℕ) (e : Ended) → slice_get ended n ≡ Some e → IfSome e.ending (IsEnding x section e.lock)

-- a `new` inside the section sets the register at the pc
pub record IsMadeAt (x : Read) (s : Section) (pc register : ℕ) : Type 0 where
  pub behind : s.acquire < pc
  pub ahead : pc < s.release
  pub cells : ℕ
  pub site : ℕ
  pub stands : slice_get x.lowered.code pc ≡ Some (New register cells site)

-- the new locks are the old ones and those of which it holds, in order
pub record HasAdded (Holds : Lock → Type 0) (old new : List Lock) : Type 0 where
  pub order : AreInOrder new
  pub ones : (lock : Lock) → IsOne new lock ↔ (IsOne old lock ⊎ Holds lock)

-- the lists are fitted to a flow with paths of at most so many operations, or a region needs too many locks
abbrev pub AreFittedAt : Lowered → Classed → ℕ → Lists → Type 0
AreFittedAt l c k_limit (Inferred lists) = (parts : List RegionNeeds) × IsFlow l c k_limit parts × AreFitted l c parts (length l.sections) lists
AreFittedAt l c k_limit (TooManyLocks region) = IsOverfull l c k_limit (region_of region)

-- the lists are fitted with paths of at most `k_limit` operations, and with each greater limit
abbrev pub AreFittedFrom : Lowered → Classed → ℕ → Lists → Type 0
AreFittedFrom l c k_limit lists = (longer : ℕ) → k_limit ≤ longer → AreFittedAt l c longer lists

-- the lists at each place are those with paths of at most as many operations
abbrev pub AreEachFitted : Lowered → Classed → List Lists → Type 0
AreEachFitted l c all = (k_limit : ℕ) (lists : Lists) → slice_get all k_limit ≡ Some lists → AreFittedAt l c k_limit lists

-- the explanation that is made of an analysis
pub record IsMade (a : ExplainAnalysis) (e : Explanation) : Type 0 where
  pub lists : List (List Lock)
  pub fitted : AreFitted a.lowering a.classes a.flow (length a.lowering.sections) lists
  pub sections : AreSections (read a) lists (length a.lowering.sections) e.sections
  pub ended : AreAllEnded (read a) e.ended
  pub count : length e.by_length ≡ 9
  pub each : (k_limit : ℕ) (l : Lists) → slice_get e.by_length k_limit ≡ Some l → AreFittedAt a.lowering a.classes k_limit l

-- it is the analysis of the source's tree
pub record IsOfSource (source : List ℕ) (k_limit : ℕ) (a : ExplainAnalysis) : Type 0 where
  pub tree : List Item
  pub parsed : Parses source tree
  pub lowers : IsLowering tree a.lowering
  pub classes : AreClasses a.lowering a.classes
  pub few : a.classes.count ≤ 1024
  pub analysed : IsAnalysed a
  pub same : a.k_limit ≡ k_limit
  pub accepted : IsAccepted tree k_limit

-- ---- ways over which a lock stays

-- each of the list
abbrev pub AreEach : (ℕ → Type 0) → List ℕ → Type 0
AreEach Holds xs = (n x : ℕ) → slice_get xs n ≡ Some x → Holds x

-- an instruction that touches nothing leaves the lock as it is: its path is not too long, and it has a class
abbrev pub IsSettledIn : LinkContext → Lock → Type 0
IsSettledIn v lock = link v Release lock ≡ lock ∷ []

-- the pcs are the region's
abbrev pub IsSpan : Lowered → Span → Type 0
IsSpan l s = (pc : ℕ) → s.first ≤ pc → pc < s.end → IsIn l (region_of s.region) s.function pc

-- the lock stays from the one pc to the other, which is the region's
pub record IsStop (x : Read) (s : Span) (lock : Lock) (from pc : ℕ) : Type 0 where
  pub stays : Stays x (region_of s.region) lock from pc
  pub inside : IsIn x.lowered (region_of s.region) s.function pc

-- the new pcs are old ones, or such as control may continue at from this one
abbrev pub AreFrom : Lowered → ℕ → List ℕ → List ℕ → Type 0
AreFrom l pc old new = (i : Instr) → slice_get l.code pc ≡ Some i → (n next : ℕ) → slice_get new n ≡ Some next
    → ((m : ℕ) × (slice_get old m ≡ Some next)) ⊎ FlowsTo i pc next

-- what is kept of ways is so
abbrev pub AreStretches : Read → List Stretch → Type 0
AreStretches x known = All (λ (s : Stretch). Stays x (region_of s.region) s.lock s.from s.to) known
