-- The lines that tell what the text of a program may lack (docs/ANALYSIS.md, "What the text may lack").
use Rattle.std.specs.Prelude.{ℕ, List, [], ◌∷◌, ◌++◌, if◌then◌else◌, ◌==◌, nat_lt, length, codes, encode_utf8_all, Option, None, Some}
use Rattle.std.specs.Fmt.{decimal}
use Rattle.std.specs.List.{flat_map}
use Rattle.asl_code.specs.declared.instr.Instr.{Instr}
use Rattle.asl_points_to.specs.Classes.{Classed}
use Rattle.asl_map.specs.declared.text_piece.Area.{Area}
use Rattle.asl_map.specs.declared.text_piece.Named.{Named}
use Rattle.asl_class_text.specs.declared.facts.Known.{Known}
use Rattle.asl_class_text.specs.declared.facts.Facts.{Facts}
use Rattle.asl_class_text.specs.Numbered.{numbered}
use Rattle.asl_class_text.specs.Places.{line_of}
use Rattle.asl_class_text.specs.Texts.{padded, place_columns, register_words}
use Rattle.asl_warnings.specs.Lacking.{address_of, has_no_class, is_reached, owner_at}

-- ---- functions

-- the line of a section, if it is of the function
abbrev pub section_line : Facts → ℕ → Area → List ℕ
section_line f function a = if a.function == function then line_of f.lines.items a.from ∷ [] else []

-- the lines of all its sections
abbrev pub section_lines : Facts → ℕ → List ℕ
section_lines f function = flat_map (section_line f function) f.map.sections.items

-- the line with a number in a list
abbrev pub listed_line : ℕ → ℕ → List ℕ
listed_line number line = (if nat_lt 0 number then codes ", line " else codes ": line ") ++ decimal line

-- whether a function has sections, by the lines of these
abbrev pub sections_head : List ℕ → List ℕ
sections_head lines = if nat_lt 0 (length lines) then codes "with sections" else codes "without a section"

-- the same, and the lines
abbrev pub sections_words : List ℕ → List ℕ
sections_words lines = sections_head lines ++ numbered listed_line 0 lines

-- where a function stands, and its name
unfoldable pub function_columns : Facts → Named → List ℕ
function_columns f n = codes "      line " ++ (padded 4 (decimal (line_of f.lines.items n.from)) ++ padded 22 (encode_utf8_all n.name))

-- the line of a function, with its sections
abbrev pub function_line : Facts → ℕ → Named → List ℕ
function_line f number n = function_columns f n ++ (sections_words (section_lines f number) ++ codes "\n")

-- that of a function that `main` does not reach; of another nothing
abbrev pub unreached_line : Facts → ℕ → Named → List ℕ
unreached_line f number n = if is_reached f.map number then [] else function_line f number n

-- the lines of all functions that `main` does not reach
abbrev pub unreached_lines : Facts → List ℕ
unreached_lines f = numbered (unreached_line f) 0 f.map.functions.items

-- ---- accesses

-- what a register of the function of the instruction points to
abbrev pub nowhere_words : Facts → ℕ → Option ℕ → List ℕ
nowhere_words f pc None = []
nowhere_words f pc (Some register) = register_words f (owner_at f.lowering pc) register ++ codes " points to no class"

-- the line of an access: where it stands, its statement and its pointer
abbrev pub access_line : Facts → ℕ → Instr → List ℕ
access_line f pc i = place_columns f pc ++ (nowhere_words f pc (address_of i) ++ codes "\n")

-- that of an access that no class has; of another instruction nothing
abbrev pub classless_line : Facts → Classed → ℕ → Instr → List ℕ
classless_line f c pc i = if has_no_class f.map f.lowering c pc i then access_line f pc i else []

-- the lines of all accesses that no class has
abbrev pub classless_lines : Facts → Classed → List ℕ
classless_lines f c = numbered (classless_line f c) 0 f.lowering.code

-- ---- the text

-- lines below their heading; nothing where there are none
abbrev pub headed : List ℕ → List ℕ → List ℕ
headed heading [] = []
headed heading (byte ∷ bytes) = heading ++ (byte ∷ bytes)

-- a part, and behind an empty line another; where there is only one, this alone
abbrev pub joined : List ℕ → List ℕ → List ℕ
joined [] second = second
joined (byte ∷ bytes) second = (byte ∷ bytes) ++ headed (codes "\n") second

-- the heading of the functions that `main` does not reach
abbrev pub unreached_heading : List ℕ
unreached_heading = codes "missing in the text: calls of these functions, which main does not reach\n"

-- the heading of the accesses that no class has
abbrev pub classless_heading : List ℕ
classless_heading = codes "missing in the text: what fills the pointers of these accesses, which have no lock\n"

-- functions that `main` does not reach, with their sections, and accesses that no class has; nothing where there are none
abbrev pub warnings_text : Known → List ℕ
warnings_text k =
    joined (headed unreached_heading (unreached_lines k.facts)) (headed classless_heading (classless_lines k.facts k.classes))
