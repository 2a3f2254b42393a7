-- What the document of the lists of a source tells: what its map, its classes and the explanation of its lists tell.
use Rattle.std.specs.Prelude.{◌≡◌, ◌++◌, ℕ, List, [], ◌∷◌, Option}
use Rattle.asl_syntax.specs.Tree.{Item}
use Rattle.asl_syntax.specs.Parsed.{Parses}
use Rattle.asl_lower.specs.Lowered.{IsLowering}
use Rattle.asl_points_to.specs.Classes.{AreClasses}
use Rattle.asl_map.specs.Mapped.{IsMapped}
use Rattle.asl_emitter.specs.Sources.{IsAcceptedSource}
use Rattle.asl_explain.specs.declared.explained_value.Explanation.{Explanation}
use Rattle.asl_explain.specs.Explained.{IsExplanation}
use Rattle.asl_lists.specs.declared.driver.Entry.{Entry}
use Rattle.asl_lists.specs.declared.facts.Facts.{Facts}
use Rattle.asl_lists.specs.declared.fault.ListsFault.{ListsFault}
use Rattle.asl_lists.specs.declared.fault.ListsFault.TheVariants.{Refused, OutOfMemory}
use Rattle.asl_map.specs.Lines.{lines_from}
use Rattle.asl_lists.specs.Document.{document_text}
use Rattle.asl_lists.specs.Driver.{AreEntries, driver}
use Rattle.asl_lists.specs.Lengths.{IsLength, IsRefusedAt}

-- the lines, the map, the code and the classes of the source
pub record AreFacts (source : List ℕ) (f : Facts) : Type 0 where
  pub lines : f.lines.items ≡ lines_from 1 source
  pub mapped : IsMapped source f.map
  pub tree : List Item
  pub parses : Parses source tree
  pub lowers : IsLowering tree f.lowering
  pub classes : AreClasses f.lowering f.classes

-- the text is the document of the source's map and of the explanation of its lists
pub record IsDocument (source : List ℕ) (k_limit : ℕ) (added text : List ℕ) : Type 0 where
  pub facts : Facts
  pub are_facts : AreFacts source facts
  pub explanation : Explanation
  pub explains : IsExplanation source k_limit explanation
  pub tells : text ≡ document_text facts k_limit added explanation.sections

-- so with paths of the length that is asked for
abbrev pub IsToldFor : List ℕ → Option ℕ → List ℕ → List ℕ → Type 0
IsToldFor source k added text = (n : ℕ) × IsLength source k n × IsDocument source n added text

-- the document of the source with what calls its entries
abbrev pub HasEntries : List ℕ → Option ℕ → List (List ℕ) → List ℕ → Type 0
HasEntries source k names text =
    (entries : List Entry) × AreEntries source names entries × IsToldFor (source ++ driver entries) k (driver entries) text

-- the document of the source, where no entries are named
abbrev pub IsListed : List ℕ → Option ℕ → List (List ℕ) → List ℕ → Type 0
IsListed source k [] text = IsToldFor source k [] text
IsListed source k (name ∷ names) text = HasEntries source k (name ∷ names) text

-- lack of memory comes only where the source is accepted
abbrev pub IsRefusedWhole : List ℕ → Option ℕ → ListsFault → Type 0
IsRefusedWhole source k (Refused cause) = IsRefusedAt source k cause
IsRefusedWhole source k OutOfMemory = (n : ℕ) × IsLength source k n × IsAcceptedSource source n

-- what a refusal says of the source with what calls its entries; of lack of memory nothing is said
abbrev pub HasRefusedEntries : List ℕ → Option ℕ → List (List ℕ) → ListsFault → Type 0
HasRefusedEntries source k names (Refused cause) =
    (entries : List Entry) × AreEntries source names entries × IsRefusedAt (source ++ driver entries) k cause
HasRefusedEntries source k names OutOfMemory = Unit {0}

-- what a refusal says of the source, with what calls its entries where some are named
abbrev pub IsRefusedLists : List ℕ → Option ℕ → List (List ℕ) → ListsFault → Type 0
IsRefusedLists source k [] fault = IsRefusedWhole source k fault
IsRefusedLists source k (name ∷ names) fault = HasRefusedEntries source k (name ∷ names) fault
