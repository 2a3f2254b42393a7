-- What an explanation says of a source (docs/ANALYSIS.md, "Explanations").
use Rattle.std.specs.Prelude.{◌≡◌, ◌↔◌, ℕ, suc, List, length, map, Some, IfSome, slice_get}
use Rattle.asl_code.specs.declared.image.Image.{Image}
use Rattle.asl_code.specs.declared.lock.Lock.{Lock}
use Rattle.asl_syntax.specs.Tree.{Item}
use Rattle.asl_syntax.specs.Parsed.{Parses}
use Rattle.asl_syntax.specs.Fault as syntax
use Rattle.asl_lower.specs.declared.section.Section.{Section}
use Rattle.asl_lower.specs.Regions.{Region, Inside}
use Rattle.asl_lock_expr.specs.Order.{AreInOrder}
use Rattle.asl_soundness.specs.Covering.{CoversLock}
use Rattle.asl_emitter.specs.declared.fault.InferFault.TheVariants as infer
use Rattle.asl_emitter.specs.Inferred.{Analysis, IsInferredFor}
use Rattle.asl_emitter.specs.Refused.{IsAccepted, IsRefusedInference as IsNotInferred}
use Rattle.asl_emitter.specs.Sources.{HasRefusedTree}
use Rattle.asl_explain.specs.declared.fault.ExplainFault.{ExplainFault}
use Rattle.asl_explain.specs.declared.fault.ExplainFault.TheVariants.{Source, Infer}
use Rattle.asl_explain.specs.declared.explained_value.Chain.{Chain}
use Rattle.asl_explain.specs.declared.explained_value.Need.{Need}
use Rattle.asl_explain.specs.declared.explained_value.Listed.{Listed}
use Rattle.asl_explain.specs.declared.explained_value.Ending.{Ending}
use Rattle.asl_explain.specs.declared.explained_value.Ended.{Ended}
use Rattle.asl_explain.specs.declared.explained_value.Lists.{Lists}
use Rattle.asl_explain.specs.declared.explained_value.Lists.TheVariants.{Inferred, TooManyLocks}
use Rattle.asl_explain.specs.declared.explained_value.Explanation.{Explanation}
use Rattle.asl_explain.specs.Chains.{Read, Needs, IsChain, IsDropped}

-- each of the chains comes from an access to the lock of the region at the pc
abbrev pub AreChains : Read → Region → ℕ → Lock → List Chain → Type 0
AreChains x r from lock chains = (n : ℕ) (c : Chain) → slice_get chains n ≡ Some c → IsChain x r from lock c.steps

-- the lock is needed at the section's start, and its chains come to it there
pub record IsNeed (x : Read) (section : ℕ) (is : Section) (d : Need) : Type 0 where
  pub needed : Needs x (Inside section) (suc is.acquire) d.lock
  pub chains : AreChains x (Inside section) (suc is.acquire) d.lock d.chains

-- each of these is such a need of the section
abbrev pub AreNeeds : Read → ℕ → Section → List Need → Type 0
AreNeeds x section is needs = (n : ℕ) (d : Need) → slice_get needs n ≡ Some d → IsNeed x section is d

-- the lock is one of these
abbrev pub IsOneOf : List Need → Lock → Type 0
IsOneOf needs lock = (n : ℕ) × (d : Need) × (slice_get needs n ≡ Some d) × (d.lock ≡ lock)

-- the locks of needs
abbrev pub locks_of : List Need → List Lock
locks_of needs = map (λ (d : Need). d.lock) needs

-- under the lock stand the needs that it covers, and no others, each once
pub record IsListed (x : Read) (section : ℕ) (is : Section) (d : Listed) : Type 0 where
  pub needs : AreNeeds x section is d.needs
  pub under : (lock : Lock) → IsOneOf d.needs lock ↔ (Needs x (Inside section) (suc is.acquire) lock × CoversLock x.classes is.function d.lock lock)
  pub order : AreInOrder (locks_of d.needs)

-- the lists of the image, and under each lock what it covers
pub record AreExplained (x : Read) (image : Image) (sections : List (List Listed)) : Type 0 where
  pub lists : map (λ (ls : List Listed). map (λ (d : Listed). d.lock) ls) sections ≡ image.lists
  pub each : (section : ℕ) (is : Section) (ls : List Listed) (n : ℕ) (d : Listed) → slice_get x.lowered.sections section ≡ Some is → slice_get sections section ≡ Some ls →
      slice_get ls n ≡ Some d → IsListed x section is d

-- a chain comes from an access to the lock after the `new`, at which the lock ends
pub record IsEnding (x : Read) (section : ℕ) (lock : Lock) (e : Ending) : Type 0 where
  pub chain : IsChain x (Inside section) (suc e.pc) lock e.chain.steps
  pub dropped : IsDropped x section e.pc lock

-- the lock ends at a `new` of the section, and at the one that is told, if one is
pub record IsEnded (x : Read) (section : ℕ) (e : Ended) : Type 0 where
  pub dropped : (pc : ℕ) × IsDropped x section pc e.lock
  pub told : IfSome e.ending (IsEnding x section e.lock)

-- the locks that end at a `new` of the section: all of them, each once
pub record AreEnded (x : Read) (section : ℕ) (ended : List Ended) : Type 0 where
  pub each : (n : ℕ) (e : Ended) → slice_get ended n ≡ Some e → IsEnded x section e
  pub all : (pc : ℕ) (lock : Lock) → IsDropped x section pc lock → (n : ℕ) × (e : Ended) × (slice_get ended n ≡ Some e) × (e.lock ≡ lock)
  pub order : AreInOrder (map (λ (e : Ended). e.lock) ended)

-- so for each section
pub record AreAllEnded (x : Read) (sections : List (List Ended)) : Type 0 where
  pub count : length sections ≡ length x.lowered.sections
  pub each : (section : ℕ) (ended : List Ended) → slice_get sections section ≡ Some ended → AreEnded x section ended

-- what the lists are with paths of at most so many operations: those of the inferred image, where the tree is accepted so, or a region needs
-- too many locks
abbrev pub AreListsAt : List Item → ℕ → Lists → Type 0
AreListsAt tree k_limit (Inferred lists) = (image : Image) × IsInferredFor tree k_limit image × (image.lists ≡ lists) × IsAccepted tree k_limit
AreListsAt tree k_limit (TooManyLocks region) = IsNotInferred tree k_limit (infer.TooManyLocks region)

-- so for each length from 0 to 8
pub record AreByLength (tree : List Item) (lists : List Lists) : Type 0 where
  pub count : length lists ≡ 9
  pub each : (k_limit : ℕ) (l : Lists) → slice_get lists k_limit ≡ Some l → AreListsAt tree k_limit l

-- what the needs of an analysed tree are read against
abbrev pub read_of : {tree : List Item} → Analysis tree → ℕ → Read
read_of analysis k_limit = record { lowered = analysis.program.lowering; classes = analysis.program.classes; stores = analysis.stores; k_limit = k_limit }

-- the explanation of a tree
pub record IsExplained (tree : List Item) (k_limit : ℕ) (e : Explanation) : Type 0 where
  pub analysis : Analysis tree
  pub image : Image
  pub inferred : IsInferredFor tree k_limit image
  pub sections : AreExplained (read_of analysis k_limit) image e.sections
  pub ended : AreAllEnded (read_of analysis k_limit) e.ended
  pub by_length : AreByLength tree e.by_length

-- the source spells a tree, for which lists are inferred, and this is its explanation
pub record IsExplanation (source : List ℕ) (k_limit : ℕ) (e : Explanation) : Type 0 where
  pub tree : List Item
  pub parsed : Parses source tree
  pub accepted : IsAccepted tree k_limit
  pub explained : IsExplained tree k_limit e

-- what each refusal says of the source
abbrev pub IsRefusedExplanation : List ℕ → ℕ → ExplainFault → Type 0
IsRefusedExplanation source k_limit (Source cause) = syntax.IsFault source cause
IsRefusedExplanation source k_limit (Infer cause) = HasRefusedTree source k_limit cause
