-- Machinery of the proofs, not of the promise: the text of the document in the pieces in which it is written (src/document.rt).
use Rattle.std.specs.Prelude.{◌≡◌, ℕ, zero, suc, List, [], ◌++◌, codes}
use Rattle.serde_json.specs.Data.{Data, string, array}
use Rattle.serde_json.specs.View.{items_of}
use Rattle.serde_json.specs.Written.{compact_text}
use Rattle.asl_explain.specs.declared.explained_value.Listed.{Listed}
use Rattle.asl_explain.specs.declared.opened_explanation.OpenedExplanation.{OpenedExplanation}
use Rattle.asl_explain.specs.Opened.{section_count, IsSectionOf, AreSectionsOf}
use Rattle.asl_lists.specs.declared.facts.Facts.{Facts}
use Rattle.asl_lists.specs.Numbered.{numbered}
use Rattle.asl_lists.specs.Places.{count}
use Rattle.asl_lists.specs.Document.{classes_from, function_data, section_area, section_at, warnings_data, document_text}

-- the name of a member, behind these bytes and before a colon
abbrev pub key_text : List ℕ → List ℕ → List ℕ
key_text before name = before ++ compact_text (string name) ++ codes ":"

-- a member of this name, behind these bytes
abbrev pub member_text : List ℕ → List ℕ → Data → List ℕ
member_text before name d = key_text before name ++ compact_text d

-- what stands before the sections
abbrev pub before_sections : Facts → ℕ → List ℕ → List ℕ
before_sections f k added =
    member_text (codes "{") (codes "classes") (array (items_of (classes_from f 0 f.map.classes)))
    ++ member_text (codes ",") (codes "driver") (string added)
    ++ member_text (codes ",") (codes "functions") (array (items_of (numbered (function_data f) 0 f.map.functions.items)))
    ++ member_text (codes ",") (codes "k") (count k)
    ++ key_text (codes ",") (codes "sections") ++ codes "["

-- the comma before a section: the first has none
abbrev pub comma_before : ℕ → List ℕ
comma_before zero = []
comma_before (suc section) = codes ","

-- the section of this number with its list
abbrev pub section_text : Facts → ℕ → List Listed → List ℕ
section_text f section list = comma_before section ++ compact_text (section_at f (section_area f section) list)

-- what stands behind the sections
abbrev pub behind_sections : Facts → List ℕ
behind_sections f =
    member_text (codes "],") (codes "version") (count 1)
    ++ member_text (codes ",") (codes "warnings") (array (items_of (warnings_data f))) ++ codes "}\n"

-- behind the old text the section of this number is told, with the list that it has
pub record HasSection (f : Facts) (o : OpenedExplanation) (section : ℕ) (old new : List ℕ) : Type 0 where
  pub list : List Listed
  pub is : IsSectionOf o section list
  pub tells : new ≡ old ++ section_text f section list

-- behind the old text the first sections are told, so many of them, with the lists that they have
pub record HasSections (f : Facts) (o : OpenedExplanation) (so_many : ℕ) (old new : List ℕ) : Type 0 where
  pub sections : List (List Listed)
  pub are : AreSectionsOf o so_many sections
  pub tells : new ≡ old ++ numbered (section_text f) 0 sections

-- the text is the document with all sections
pub record IsTextOf (f : Facts) (k : ℕ) (added : List ℕ) (o : OpenedExplanation) (text : List ℕ) : Type 0 where
  pub sections : List (List Listed)
  pub are : AreSectionsOf o (section_count o) sections
  pub tells : text ≡ document_text f k added sections
