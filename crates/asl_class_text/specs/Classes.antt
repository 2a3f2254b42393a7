-- What is told of the classes of a source (docs/ANALYSIS.md, "Why one class").
use Rattle.std.specs.Prelude.{◌≡◌, ℕ, List, [], ◌∷◌, Bool, ◌==◌, if◌then◌else◌, length, take, Some, slice_get, IfSome}
use Rattle.asl_syntax.specs.Tree.{Item}
use Rattle.asl_syntax.specs.Parsed.{Parses}
use Rattle.asl_lower.specs.Lowered.{Lowered, IsLowering}
use Rattle.asl_points_to.specs.Classes.{Classed, members, IsLegal, AreClasses, Share}
use Rattle.asl_map.specs.declared.map.Map.{Map}
use Rattle.asl_map.specs.Mapped.{IsMapped}
use Rattle.asl_class_reasons.specs.declared.place.Place.TheVariants.{Member}
use Rattle.asl_class_reasons.specs.declared.place.Step.{Step}
use Rattle.asl_class_reasons.specs.Reasons.{AreAllReasons}
use Rattle.asl_class_reasons.specs.Without.{without}
use Rattle.asl_class_text.specs.declared.facts.Facts.{Facts}
use Rattle.asl_class_text.specs.declared.facts.Known.{Known}
use Rattle.asl_class_text.specs.declared.told.ToldPair.{ToldPair}
use Rattle.asl_class_text.specs.declared.told.ToldClass.{ToldClass}
use Rattle.asl_class_text.specs.Numbered.{numbered}
use Rattle.asl_map.specs.Lines.{lines_from}
use Rattle.asl_class_text.specs.Texts.{shown, classes_text}
use Rattle.asl_class_text.specs.Chains.{IsStraightChain}
use Rattle.asl_class_text.specs.Grounds.{most_grounds, AreGrounds}

-- ---- members

-- the member of a number, if it is of the class
abbrev pub one_of : ℕ → ℕ → ℕ → List ℕ
one_of class member of = if of == class then member ∷ [] else []

-- the members of a class, by the class of each
abbrev pub members_of : List ℕ → ℕ → List ℕ
members_of classes class = numbered (one_of class) 0 classes

-- those of which it is told
abbrev pub told_of : Bool → List ℕ → List ℕ
told_of all ms = take (shown all (length ms)) ms

-- ---- why they share a class

-- some legal classes of the program without the instruction do not put the two members together; so its classes do not
abbrev pub IsParting : Lowered → ℕ → ℕ → ℕ → Type 0
IsParting l pc m n = (c : Classed) × IsLegal (without l pc) c × (¬ Share c m n)

-- these two members, with a chain from the one to the other that is no circle; and an instruction that parts them, if one is told
pub record IsOther (l : Lowered) (steps : List Step) (first second : ℕ) (p : ToldPair) : Type 0 where
  pub from : p.first ≡ first
  pub into : p.second ≡ second
  pub chain : IsStraightChain l steps (Member first) (Member second) p.chain.items
  pub parting : IfSome p.without (λ pc. IsParting l pc first second)

-- the first member with each of the others, so many of them
pub record AreOthers (l : Lowered) (steps : List Step) (first : ℕ) (others : List ℕ) (many : ℕ) (ps : List ToldPair) : Type 0 where
  pub count : length ps ≡ many
  pub each : (n second : ℕ) (p : ToldPair) → slice_get others n ≡ Some second → slice_get ps n ≡ Some p → IsOther l steps first second p

-- the pairs of these members: the first of them with each of the others, and none where there are no members
abbrev pub ArePairs : Lowered → List Step → List ℕ → List ToldPair → Type 0
ArePairs l steps [] ps = ps ≡ []
ArePairs l steps (first ∷ others) ps = AreOthers l steps first others (length others) ps

-- ---- classes

-- what is told of a class: its members, why they share it, and what the chains rest on
pub record IsToldClass (l : Lowered) (classes : List ℕ) (steps : List Step) (all : Bool) (class : ℕ) (t : ToldClass) : Type 0 where
  pub number : t.class ≡ class
  pub members : t.members.items ≡ members_of classes class
  pub pairs : ArePairs l steps (told_of all (members_of classes class)) t.pairs.items
  pub grounds : AreGrounds l steps (most_grounds all) t.pairs.items t.grounds

-- so of each class
pub record AreToldClasses (l : Lowered) (classes : List ℕ) (count : ℕ) (steps : List Step) (all : Bool) (ts : List ToldClass) : Type 0 where
  pub count_is : length ts ≡ count
  pub each : (class : ℕ) (t : ToldClass) → slice_get ts class ≡ Some t → IsToldClass l classes steps all class t

-- ---- from a source to the text

-- the text, its lines, its map, its code and the class of each of its members
pub record AreFactsOf (source : List ℕ) (m : Map) (l : Lowered) (c : Classed) (f : Facts) : Type 0 where
  pub text : f.source.now ≡ source
  pub lines : f.lines.items ≡ lines_from 1 source
  pub map : f.map ≡ m
  pub lowering : f.lowering ≡ l
  pub count : f.count ≡ c.count
  pub classes : f.classes.items ≡ members c

-- these are the facts of the source: its map, the code of the tree that it spells, and the classes of that code
pub record AreFacts (source : List ℕ) (f : Facts) : Type 0 where
  pub mapped : IsMapped source f.map
  pub tree : List Item
  pub parses : Parses source tree
  pub lowers : IsLowering tree f.lowering
  pub classed : Classed
  pub classes : AreClasses f.lowering classed
  pub facts : AreFactsOf source f.map f.lowering classed f

-- so, with its classes
pub record IsKnown (source : List ℕ) (k : Known) : Type 0 where
  pub facts : AreFacts source k.facts
  pub classes : facts.classed ≡ k.classes

-- the text tells the classes of the source
pub record IsClassText (source : List ℕ) (all : Bool) (text : List ℕ) : Type 0 where
  pub facts : Facts
  pub are_facts : AreFacts source facts
  pub steps : List Step
  pub reasons : AreAllReasons facts.lowering steps
  pub told : List ToldClass
  pub are_told : AreToldClasses facts.lowering facts.classes.items facts.count steps all told
  pub tells : text ≡ classes_text facts all told
