-- The text of classes, line by line (docs/ANALYSIS.md, "Why one class").
use Rattle.std.specs.Prelude.{ℕ, List, [], ◌∷◌, ◌++◌, Bool, true, false, if◌then◌else◌, nat_lt, ◌+◌, ◌-◌, length, take, replicate, codes, Option, None, Some, slice_get, unwrap_or, encode_utf8, encode_utf8_all, Vec}
use Rattle.std.specs.declared.alloc.Global.{Global}
use Rattle.std.specs.Fmt.{decimal}
use Rattle.std.specs.List.{flat_map}
use Rattle.asl_map.specs.Names.{function_name, register_name}
use Rattle.asl_class_reasons.specs.declared.place.Place.{Place}
use Rattle.asl_class_reasons.specs.declared.place.Place.TheVariants as place
use Rattle.asl_class_reasons.specs.declared.place.Cause.{Cause}
use Rattle.asl_class_reasons.specs.declared.place.Cause.TheVariants.{Instruction, SameClass}
use Rattle.asl_class_text.specs.declared.facts.Facts.{Facts}
use Rattle.asl_class_text.specs.declared.kinds.Kind.{Kind}
use Rattle.asl_class_text.specs.declared.kinds.Kind.TheVariants as kind
use Rattle.asl_class_text.specs.declared.told.ToldStep.{ToldStep}
use Rattle.asl_class_text.specs.declared.told.ToldPair.{ToldPair}
use Rattle.asl_class_text.specs.declared.told.ToldGround.{ToldGround}
use Rattle.asl_class_text.specs.declared.told.ToldGrounds.{ToldGrounds}
use Rattle.asl_class_text.specs.declared.told.ToldClass.{ToldClass}
use Rattle.asl_class_text.specs.Numbered.{numbered}
use Rattle.asl_class_text.specs.Places.{is_blank, line_of, line_at, stretch, stretch_at, area_of_site}
use Rattle.asl_class_text.specs.Kinds.{parameters_of, kind_of, start_of, end_of, goes_through_parameters}

-- ---- statements and names

-- a byte of a word, after a blank where one was read before it
abbrev pub byte_words : Bool → ℕ → List ℕ
byte_words was_blank byte = (if was_blank then 32 ∷ [] else []) ++ encode_utf8 byte

-- the bytes with one blank between two words, after a blank where one was read before them
abbrev pub words_from : Bool → List ℕ → List ℕ
words_from was_blank [] = []
words_from was_blank (byte ∷ bytes) = if is_blank byte then words_from true bytes else byte_words was_blank byte ++ words_from false bytes

-- the bytes on one line, with one blank in place of all blanks before a word
abbrev pub one_line : List ℕ → List ℕ
one_line bytes = words_from false bytes

-- the statement of an instruction
abbrev pub statement_at : Facts → ℕ → List ℕ
statement_at f pc = one_line (stretch_at f pc)

-- a name, which is ASCII
abbrev pub name_words : Option (List ℕ) → List ℕ
name_words None = []
name_words (Some name) = encode_utf8_all name

-- ---- places

-- a global: `queue`
abbrev pub global_words : Facts → ℕ → List ℕ
global_words f global = codes "`" ++ (name_words (slice_get f.map.globals.items global) ++ codes "`")

-- a site, by its line and its statement: line 8 `n = new 2`
abbrev pub site_words : Facts → ℕ → List ℕ
site_words f site =
    codes "line " ++ (decimal (line_of f.lines.items (area_of_site f site).from) ++ (codes " `" ++ (one_line (stretch f.source.now (area_of_site f site).from (area_of_site f site).to) ++ codes "`")))

-- a member: the globals, and then the sites
abbrev pub member_words : Facts → ℕ → List ℕ
member_words f member = if nat_lt member f.lowering.globals then global_words f member else site_words f (member - f.lowering.globals)

-- the name of the function of this number
abbrev pub function_words : Facts → ℕ → List ℕ
function_words f function = name_words (function_name f.map function)

-- how many registers of a function have a name
abbrev pub named_count : Option (Vec (List ℕ) Global) → ℕ
named_count None = 0
named_count (Some names) = length names.items

-- how many registers of the function of this number have a name
abbrev pub locals_of : Facts → ℕ → ℕ
locals_of f function = named_count (slice_get f.map.registers.items function)

-- a register with a name: parameter `x` of move, `a` of main
abbrev pub named_words : Facts → ℕ → ℕ → List ℕ → List ℕ
named_words f function register name =
    (if nat_lt register (parameters_of f function) then codes "parameter " else []) ++ (codes "`" ++ (encode_utf8_all name ++ (codes "` of " ++ function_words f function)))

-- of which argument a register without a name is, from 1: these registers follow those with names
unfoldable pub argument_number : Facts → ℕ → ℕ → ℕ
argument_number f function register = register + 1 - locals_of f function

-- one without a name, which passes an argument: argument 1 of calls in main
abbrev pub unnamed_words : Facts → ℕ → ℕ → List ℕ
unnamed_words f function register =
    codes "argument " ++ (decimal (argument_number f function register) ++ (codes " of calls in " ++ function_words f function))

-- a register of the function, which has this name or none
abbrev pub words_of_register : Facts → ℕ → ℕ → Option (List ℕ) → List ℕ
words_of_register f function register None = unnamed_words f function register
words_of_register f function register (Some name) = named_words f function register name

-- a register of the function: by its name, and else by the argument that it passes
abbrev pub register_words : Facts → ℕ → ℕ → List ℕ
register_words f function register = words_of_register f function register (register_name f.map function register)

-- the class of a member
abbrev pub class_of : Facts → ℕ → ℕ
class_of f member = unwrap_or (slice_get f.classes.items member) 0

-- the cells of the class of a member, by the number of the class
abbrev pub cells_words : Facts → ℕ → List ℕ
cells_words f member = codes "the cells of class " ++ decimal (class_of f member)

-- a place: a member, a register or cells
abbrev pub place_words : Facts → Place → List ℕ
place_words f (place.Member m) = member_words f m
place_words f (place.Register g r) = register_words f g r
place_words f (place.Cells m) = cells_words f m

-- ---- steps

-- what a step of a kind says that leads from the first place to the second
abbrev pub forward_words : Kind → List ℕ → List ℕ → List ℕ
forward_words kind.Address start end = end ++ (codes " points to " ++ start)
forward_words kind.Made start end = end ++ codes " points to the new object"
forward_words kind.Copied start end = codes "so does " ++ end
forward_words kind.Passed start end = codes "so does " ++ end
forward_words kind.Field start end = codes "so does " ++ (end ++ codes ", some cells on")
forward_words kind.Loaded start end = codes "so does " ++ (end ++ codes ", read from these")
forward_words kind.Stored start end = end ++ codes " hold it, too"
forward_words kind.Returned start end = codes "so does " ++ (end ++ codes ", the result")

-- where a chain goes from the place into which it leads, the first, to the other
abbrev pub back_words : Kind → List ℕ → List ℕ → List ℕ
back_words kind.Address start end = start ++ (codes " points to " ++ end)
back_words kind.Made start end = start ++ codes " points to the new object"
back_words kind.Copied start end = start ++ (codes " is " ++ (end ++ codes ", too"))
back_words kind.Passed start end = start ++ (codes " is " ++ (end ++ codes ", too"))
back_words kind.Field start end = start ++ (codes " is " ++ (end ++ codes ", some cells on"))
back_words kind.Loaded start end = start ++ (codes " points to what " ++ (end ++ codes " hold"))
back_words kind.Stored start end = codes "these hold " ++ end
back_words kind.Returned start end = start ++ (codes " is the result, " ++ end)

-- what a step by the instruction at a pc says
abbrev pub way_words : Facts → ℕ → ToldStep → List ℕ
way_words f pc t =
    if t.back then back_words (kind_of f pc t.step) (place_words f (start_of t)) (place_words f (end_of t)) else forward_words (kind_of f pc t.step) (place_words f (start_of t)) (place_words f (end_of t))

-- the member whose class has these cells
abbrev pub owner : Place → ℕ
owner (place.Cells m) = m
owner p = 0

-- what a step says that joins what the cells of two members hold
abbrev pub merge_words : Facts → ToldStep → List ℕ
merge_words f t =
    member_words f (owner (start_of t)) ++ (codes " and " ++ (member_words f (owner (end_of t)) ++ codes " are one class, and so is what their cells hold"))

-- ---- lines

-- words, with as many blanks as make both so wide, and one more
unfoldable pub padded : ℕ → List ℕ → List ℕ
padded width words = words ++ (replicate (width - length words) 32 ++ codes " ")

-- the line of the statement of an instruction, and the statement
unfoldable pub place_columns : Facts → ℕ → List ℕ
place_columns f pc = codes "      line " ++ (padded 4 (decimal (line_at f pc)) ++ padded 22 (statement_at f pc))

-- the line of a step by the instruction at the pc: where the statement stands, the statement, and what the step says
abbrev pub way_line : Facts → ℕ → ToldStep → List ℕ
way_line f pc t = place_columns f pc ++ (way_words f pc t ++ codes "\n")

-- the line of a step that joins what the cells of two members hold
abbrev pub merge_line : Facts → ToldStep → List ℕ
merge_line f t = codes "      " ++ (merge_words f t ++ codes "\n")

-- the line of a step by its cause, an instruction or that members share a class
abbrev pub line_by : Facts → Cause → ToldStep → List ℕ
line_by f (Instruction pc) t = way_line f pc t
line_by f SameClass t = merge_line f t

-- the line of a step
abbrev pub step_line : Facts → ToldStep → List ℕ
step_line f t = line_by f t.step.cause t

-- the line before a pair's chain: that the two members are one class
abbrev pub head_line : Facts → ToldPair → List ℕ
head_line f p = codes "  " ++ (member_words f p.first ++ (codes " and " ++ (member_words f p.second ++ codes " are one class, since\n")))

-- that a chain goes through parameters, where it does
abbrev pub parameters_line : Facts → List ToldStep → List ℕ
parameters_line f ts = if goes_through_parameters f ts then codes "    through parameters, which all calls of a function share\n" else []

-- the line of the statement without which the two members would be two classes, where one is told
abbrev pub without_line : Facts → Option ℕ → List ℕ
without_line f None = []
without_line f (Some pc) = codes "    without line " ++ (decimal (line_at f pc) ++ codes " they would be two\n")

-- why two members share a class
abbrev pub pair_lines : Facts → ToldPair → List ℕ
pair_lines f p = head_line f p ++ (flat_map (step_line f) p.chain.items ++ (parameters_line f p.chain.items ++ without_line f p.without))

-- the line before a ground's chain, after this indent
abbrev pub ground_head : Facts → List ℕ → ToldGround → List ℕ
ground_head f indent g = indent ++ (place_words f g.one ++ (codes " and " ++ (place_words f g.other ++ codes " point to one class, since\n")))

-- why the two places of a ground point to one class, after this indent
abbrev pub ground_lines : Facts → List ℕ → ToldGround → List ℕ
ground_lines f indent g = ground_head f indent g ++ (flat_map (step_line f) g.chain.items ++ parameters_line f g.chain.items)

-- that there are more grounds, where there are
abbrev pub more_grounds : List ℕ → Bool → List ℕ
more_grounds indent more = if more then indent ++ codes "and more such reasons\n" else []

-- all grounds that are told, each after this indent, and that there are more, where there are
abbrev pub grounds_lines : Facts → List ℕ → ToldGrounds → List ℕ
grounds_lines f indent gs = flat_map (ground_lines f indent) gs.items.items ++ more_grounds indent gs.more

-- how many of so many members are told
abbrev pub shown : Bool → ℕ → ℕ
shown true count = count
shown false count = if nat_lt 8 count then 7 else count

-- why the members of a class share it, where more is told of the lists: two blanks further on, and how many members are left
abbrev pub pair_block : Facts → ToldPair → List ℕ
pair_block f p = codes "  " ++ pair_lines f p

-- how many members are left of which it is not told why they share the class, if some are
abbrev pub more_line : ℕ → List ℕ
more_line left = if nat_lt 0 left then codes "    and " ++ (decimal left ++ codes " more (--all tells why)\n") else []

-- all of it below a lock on the class: the pairs, how many members are left, and the grounds
abbrev pub reasons_block : Facts → Bool → ToldClass → List ℕ
reasons_block f all t =
    flat_map (pair_block f) t.pairs.items ++ (more_line (length t.members.items - shown all (length t.members.items)) ++ grounds_lines f (codes "    ") t.grounds)

-- ---- classes

-- the member with a number in a list
abbrev pub listed_words : Facts → ℕ → ℕ → List ℕ
listed_words f number member = (if nat_lt 0 number then codes ", " else []) ++ member_words f member

-- how many members are left, if some are
abbrev pub left_words : ℕ → List ℕ
left_words left = if nat_lt 0 left then codes ", and " ++ (decimal left ++ codes " more (--all tells them)") else []

-- the number of a class and its members
abbrev pub members_line : Facts → Bool → ToldClass → List ℕ
members_line f all t =
    codes "class " ++ (decimal t.class ++ (codes ": " ++ (numbered (listed_words f) 0 (take (shown all (length t.members.items)) t.members.items) ++ (left_words (length t.members.items - shown all (length t.members.items)) ++ codes "\n"))))

-- the class with a number in a list
abbrev pub class_lines : Facts → Bool → ℕ → ToldClass → List ℕ
class_lines f all number t = (if nat_lt 0 number then codes "\n" else []) ++ (members_line f all t ++ (flat_map (pair_lines f) t.pairs.items ++ grounds_lines f (codes "  ") t.grounds))

-- the text of all classes, with an empty line between two
abbrev pub classes_text : Facts → Bool → List ToldClass → List ℕ
classes_text f all ts = numbered (class_lines f all) 0 ts
