-- Machinery of the proofs, not of the promise: an explanation whose sections are asked for one after the other (src/opened_explanation.rt).
use Rattle.std.specs.Prelude.{◌≡◌, ℕ, List, length, Some, slice_get}
use Rattle.asl_code.specs.declared.lock.Lock.{Lock}
use Rattle.asl_lower.specs.declared.section.Section.{Section}
use Rattle.asl_emitter.specs.Sources.{IsAcceptedSource}
use Rattle.asl_explain.specs.declared.explain_analysis.ExplainAnalysis.{ExplainAnalysis}
use Rattle.asl_explain.specs.declared.explained_value.Ended.{Ended}
use Rattle.asl_explain.specs.declared.explained_value.Explanation.{Explanation}
use Rattle.asl_explain.specs.declared.explained_value.Listed.{Listed}
use Rattle.asl_explain.specs.declared.explained_value.Lists.{Lists}
use Rattle.asl_explain.specs.declared.opened_explanation.OpenedExplanation.{OpenedExplanation}
use Rattle.asl_explain.specs.declared.opened_explanation.SectionSearch.{SectionSearch}
use Rattle.asl_explain.specs.Chains.{Read}
use Rattle.asl_explain.specs.Explained.{AreAllEnded, IsExplanation}
use Rattle.asl_explain.specs.Known.{AreKnown}
use Rattle.asl_explain.specs.Analysed.{read, IsAnalysed, AreEachFitted, AreEndedBelow, AreListed, AreSections}

-- how many sections the source has
abbrev pub section_count : OpenedExplanation → ℕ
section_count o = length o.analysis.lowering.sections

-- these are the locks of the list of the section of a number, explained
pub record IsSectionOf (o : OpenedExplanation) (number : ℕ) (listed : List Listed) : Type 0 where
  pub is : Section
  pub stands : slice_get o.analysis.lowering.sections number ≡ Some is
  pub list : List Lock
  pub at : slice_get o.lists number ≡ Some list
  pub explained : AreListed (read o.analysis) number is list listed

-- these are the first sections, so many of them
abbrev pub AreSectionsOf : OpenedExplanation → ℕ → List (List Listed) → Type 0
AreSectionsOf o so_many sections = AreSections (read o.analysis) o.lists so_many sections

-- it has a list for each section of an analysis
pub record IsReady (o : OpenedExplanation) : Type 0 where
  pub analysed : IsAnalysed o.analysis
  pub count : length o.lists ≡ section_count o

-- what the search knows of steps is so
abbrev pub IsSearchOf : OpenedExplanation → SectionSearch → Type 0
IsSearchOf o s = AreKnown (read o.analysis) s.known

-- the source is accepted, and of all its sections there is an explanation
pub record IsOpened (source : List ℕ) (k_limit : ℕ) (o : OpenedExplanation) : Type 0 where
  pub ready : IsReady o
  pub accepted : IsAcceptedSource source k_limit
  pub explains : (sections : List (List Listed)) → AreSectionsOf o (section_count o) sections → (e : Explanation) × IsExplanation source k_limit e × (e.sections ≡ sections)

-- ---- what an explanation has beside its sections

-- the first sections, so many of them, have locks that end in them
abbrev pub HasEndedBelow : Read → ℕ → Type 0
HasEndedBelow x so_many = (ended : List (List Ended)) × AreEndedBelow x so_many ended

-- there is the rest of an explanation
pub record HasRest (a : ExplainAnalysis) : Type 0 where
  pub ended : List (List Ended)
  pub are_ended : AreAllEnded (read a) ended
  pub by_length : List Lists
  pub count : length by_length ≡ 9
  pub each : AreEachFitted a.lowering a.classes by_length
