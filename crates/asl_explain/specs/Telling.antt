-- Machinery of the proofs, not of the promise: what a call adds to a text (src/text.rt).
use Rattle.std.specs.Prelude.{◌≡◌, ℕ, suc, List, [], ◌∷◌, ◌++◌, Bool, if◌then◌else◌, Option, None, Some, length, slice_get}
use Rattle.std.specs.List.{list_any}
use Rattle.asl_code.specs.declared.lock.Lock.{Lock}
use Rattle.asl_lower.specs.declared.section.Section.{Section}
use Rattle.asl_class_text.specs.Reasoned.{Reasoned, IsReasoned}
use Rattle.asl_warnings.specs.Texts.{warnings_text}
use Rattle.asl_explain.specs.declared.class_reasons.ClassTold.{ClassTold}
use Rattle.asl_explain.specs.declared.explain_analysis.ExplainAnalysis.{ExplainAnalysis}
use Rattle.asl_explain.specs.declared.explained_value.Listed.{Listed}
use Rattle.asl_explain.specs.declared.explained_value.Ended.{Ended}
use Rattle.asl_explain.specs.declared.explained_value.Explanation.{Explanation}
use Rattle.asl_explain.specs.declared.text.Teller.{Teller}
use Rattle.asl_explain.specs.Chains.{Read}
use Rattle.asl_explain.specs.Explained.{AreEnded}
use Rattle.asl_explain.specs.Analysed.{AreListed, AreSections, AreEndedBelow, IsMade}
use Rattle.asl_explain.specs.ClassReasons.{is_on, IsToldIf, AreTold}
use Rattle.asl_explain.specs.Told.{Part, IsMadeOf, Given, section_told, sections_told, parting_words}

-- the new text is the old one with more after it, which is made of the parts
pub record Tells (parts : List Part) (old new : List ℕ) : Type 0 where
  pub more : List ℕ
  pub added : new ≡ old ++ more
  pub made : IsMadeOf parts more

-- what a teller writes from
abbrev pub given : Teller → Given
given t = record {
  facts = t.places.now.reasoned.now.known.facts;
  k_limit = t.analysis.now.k_limit;
  by_length = t.by_length.now;
  classes = t.told.now;
  all = t.all;
}

-- the new text is the old one and a section with this list, explained
pub record TellsSection (x : Read) (section : ℕ) (is : Section) (list : List Lock) (g : Given) (old new : List ℕ) : Type 0 where
  pub listed : List Listed
  pub ended : List Ended
  pub made : AreListed x section is list listed
  pub ends : AreEnded x section ended
  pub tells : Tells (section_told g section listed ended) old new

-- the text is that of the first sections with these lists, so many of them, explained
pub record TellsSections (x : Read) (lists : List (List Lock)) (g : Given) (so_many : ℕ) (text : List ℕ) : Type 0 where
  pub sections : List (List Listed)
  pub ended : List (List Ended)
  pub made : AreSections x lists so_many sections
  pub ends : AreEndedBelow x so_many ended
  pub tells : Tells (sections_told g 0 sections ended) [] text

-- ---- what is told of classes, by the lists alone

-- the list has a lock on the class
abbrev pub is_listed : ℕ → List Lock → Bool
is_listed class list = list_any (is_on class) list

-- the first list that has one, where lists are numbered from this number on
abbrev pub first_list : ℕ → ℕ → List (List Lock) → Option ℕ
first_list class n [] = None
first_list class n (list ∷ rest) = if is_listed class list then Some n else first_list class (suc n) rest

-- what is told of the first classes, so many of them
pub record AreToldBy (r : Reasoned) (all : Bool) (lists : List (List Lock)) (count : ℕ) (ts : List (Option ClassTold)) : Type 0 where
  pub count_is : length ts ≡ count
  pub each : (class : ℕ) (o : Option ClassTold) → slice_get ts class ≡ Some o → IsToldIf r all class (first_list class 0 lists) o

-- the text tells the explanation that is made of an analysis, and ends with what the source may lack
pub record IsTextOf (a : ExplainAnalysis) (source : List ℕ) (all : Bool) (text : List ℕ) : Type 0 where
  pub explanation : Explanation
  pub made : IsMade a explanation
  pub reasoned : Reasoned
  pub reasons : IsReasoned source reasoned
  pub classes : List (Option ClassTold)
  pub are_told : AreTold reasoned all explanation.sections reasoned.known.facts.count classes
  pub front : List ℕ
  pub tells : IsMadeOf (sections_told (record { facts = reasoned.known.facts; k_limit = a.k_limit; by_length = explanation.by_length; classes = classes; all = all }) 0 explanation.sections explanation.ended) front
  pub ends : text ≡ front ++ (parting_words front (warnings_text reasoned.known) ++ warnings_text reasoned.known)
