-- The document of the lists of a program (docs/PROOFS.md, "The lists as data"), as JSON data: the members of an object are in the order of their names.
use Rattle.std.specs.Prelude.{ℕ, zero, suc, ◌++◌, List, [], ◌∷◌, map, Bool, true, false, ◌==◌, if◌then◌else◌, codes, Option, None, Some, slice_get, unwrap_or, encode_utf8_all}
use Rattle.std.specs.List.{flat_map, list_any}
use Rattle.serde_json.specs.Data.{Data, null, boolean, string, array, object, member, no_members}
use Rattle.serde_json.specs.View.{items_of}
use Rattle.serde_json.specs.Written.{compact_text}
use Rattle.asl_code.specs.declared.instr.Instr.{Instr}
use Rattle.asl_code.specs.declared.lock.Base.{Base}
use Rattle.asl_code.specs.declared.lock.Base.TheVariants.{Reg, Global}
use Rattle.asl_code.specs.declared.lock.Lock.{Lock}
use Rattle.asl_code.specs.declared.lock.Lock.TheVariants as lock
use Rattle.asl_code.specs.declared.path.Op.{Op}
use Rattle.asl_code.specs.declared.path.Op.TheVariants.{Deref, Off}
use Rattle.asl_code.specs.Locks.{effect_of}
use Rattle.asl_code.specs.declared.value.Effect.{Effect}
use Rattle.asl_code.specs.declared.value.Effect.TheVariants.{Read, Write}
use Rattle.asl_lock_expr.specs.ClassOf.{class_of}
use Rattle.asl_map.specs.declared.text_piece.Area.{Area}
use Rattle.asl_map.specs.declared.text_piece.Named.{Named}
use Rattle.asl_explain.specs.declared.explained_value.Chain.{Chain}
use Rattle.asl_explain.specs.declared.explained_value.Step.{Step}
use Rattle.asl_explain.specs.declared.explained_value.Need.{Need}
use Rattle.asl_explain.specs.declared.explained_value.Listed.{Listed}
use Rattle.asl_lock_words.specs.Assembly.{spell, effect_word}
use Rattle.asl_lock_words.specs.Words.{base_name, lock_words}
use Rattle.asl_warnings.specs.Lacking.{has_no_class, is_reached}
use Rattle.asl_lists.specs.declared.facts.Facts.{Facts}
use Rattle.asl_lists.specs.Numbered.{numbered}
use Rattle.asl_lists.specs.Places.{count, line_of, name_words, function_words, area_data, area_at}

-- ---- locks

-- the kind of a lock in a word: on an expression, on a class or on the root
abbrev pub kind_word : Lock → List ℕ
kind_word (lock.Expr e effect) = codes "expr"
kind_word (lock.Class class effect) = codes "class"
kind_word (lock.Root effect) = codes "root"

-- a register or a global, and its name
abbrev pub base_data : Facts → ℕ → Base → Data
base_data f function (Reg register) =
    object (member (codes "name") (string (base_name f.map function (Reg register))) (member (codes "register") (count register) no_members))
base_data f function (Global global) =
    object (member (codes "global") (count global) (member (codes "name") (string (base_name f.map function (Global global))) no_members))

-- where the expression of a lock begins; `null` for a lock on a class or on the root
abbrev pub lock_base : Facts → ℕ → Lock → Data
lock_base f function (lock.Expr e effect) = base_data f function e.base
lock_base f function (lock.Class class effect) = null
lock_base f function (lock.Root effect) = null

-- the number of a class, and `null` where there is none
abbrev pub class_or_null : Option ℕ → Data
class_or_null None = null
class_or_null (Some class) = count class

-- the class of a lock: its own, or that of the cell that its expression denotes
abbrev pub lock_class : Facts → ℕ → Lock → Data
lock_class f function (lock.Expr e effect) = class_or_null (class_of f.classes function e)
lock_class f function (lock.Class class effect) = count class
lock_class f function (lock.Root effect) = null

-- `*` follows the address in the cell, a number goes so many cells on
abbrev pub op_data : Op → Data
op_data Deref = string (codes "*")
op_data (Off cells) = count cells

-- the operations of a lock's expression; none for a lock on a class or on the root
abbrev pub lock_path : Lock → Data
lock_path (lock.Expr e effect) = array (items_of (map op_data e.path))
lock_path (lock.Class class effect) = array (items_of [])
lock_path (lock.Root effect) = array (items_of [])

-- the statement that a chain begins with
abbrev pub first_data : Facts → Option Step → List Data
first_data f None = []
first_data f (Some s) = area_data f (area_at f s.pc) ∷ []

-- the statement that a chain begins with, as a list: none for a chain without steps
abbrev pub statement_data : Facts → Chain → List Data
statement_data f c = first_data f (slice_get c.steps 0)

-- what a section needs at its start, with the statements that need it
abbrev pub need_data : Facts → ℕ → Need → Data
need_data f function d = object
    (member (codes "statements") (array (items_of (flat_map (statement_data f) d.chains)))
    (member (codes "text") (string (spell d.lock))
    (member (codes "words") (string (lock_words f.map function d.lock)) no_members)))

-- a lock of a section's list in the function of this number, with the needs that it covers
abbrev pub lock_data : Facts → ℕ → Listed → Data
lock_data f function d = object
    (member (codes "base") (lock_base f function d.lock)
    (member (codes "class") (lock_class f function d.lock)
    (member (codes "effect") (string (effect_word (effect_of d.lock)))
    (member (codes "kind") (string (kind_word d.lock))
    (member (codes "needs") (array (items_of (map (need_data f function) d.needs)))
    (member (codes "path") (lock_path d.lock)
    (member (codes "text") (string (spell d.lock))
    (member (codes "words") (string (lock_words f.map function d.lock)) no_members))))))))

-- ---- classes

-- the name of a global that is of the class; of another nothing
abbrev pub global_data : Facts → ℕ → ℕ → ℕ → List Data
global_data f class global of = if of == class then string (name_words (slice_get f.map.globals.items global)) ∷ [] else []

-- where something stands, as a list: none where that is not known
abbrev pub area_list : Facts → Option Area → List Data
area_list f None = []
area_list f (Some a) = area_data f a ∷ []

-- where a site stands that is of the class; of another nothing
abbrev pub site_data : Facts → ℕ → ℕ → ℕ → List Data
site_data f class site of = if of == class then area_list f (slice_get f.map.sites.items site) else []

-- the class of this number with its members: the names of its globals, and where its sites stand
abbrev pub class_data : Facts → ℕ → Data
class_data f class = object
    (member (codes "class") (count class)
    (member (codes "globals") (array (items_of (numbered (global_data f class) 0 f.map.global_classes.items)))
    (member (codes "sites") (array (items_of (numbered (site_data f class) 0 f.map.site_classes.items))) no_members)))

-- so many classes from this one on
unfoldable pub classes_from : Facts → ℕ → ℕ → List Data
classes_from f first zero = []
classes_from f first (suc many) = class_data f first ∷ classes_from f (suc first) many

-- ---- functions

-- the function of this number: its name, where it stands, and whether `main` reaches it
abbrev pub function_entry : Facts → ℕ → Named → Data
function_entry f number n = object
    (member (codes "from") (count n.from)
    (member (codes "line") (count (line_of f.lines.items n.from))
    (member (codes "name") (string (encode_utf8_all n.name))
    (member (codes "reached") (boolean (is_reached f.map number))
    (member (codes "to") (count n.to) no_members)))))

-- the same, as a list of one
abbrev pub function_data : Facts → ℕ → Named → List Data
function_data f number n = function_entry f number n ∷ []

-- ---- sections

-- the operation follows the address in the cell
abbrev pub is_star : Op → Bool
is_star Deref = true
is_star (Off cells) = false

-- evaluating the lock reads a cell
abbrev pub reads_cell : Lock → Bool
reads_cell (lock.Expr e effect) = list_any is_star e.path
reads_cell (lock.Class class effect) = false
reads_cell (lock.Root effect) = false

-- the effect is that of a write
abbrev pub is_write : Effect → Bool
is_write Read = false
is_write Write = true

-- where the section of this number stands
abbrev pub section_area : Facts → ℕ → Area
section_area f section = unwrap_or (slice_get f.map.sections.items section) (record { function = 0; from = 0; to = 0 })

-- a section at this place
abbrev pub section_at : Facts → Area → List Listed → Data
section_at f a list = object
    (member (codes "from") (count a.from)
    (member (codes "function") (string (function_words f.map a.function))
    (member (codes "line") (count (line_of f.lines.items a.from))
    (member (codes "locks") (array (items_of (map (lock_data f a.function) list)))
    (member (codes "reads_cells") (boolean (list_any (λ (d : Listed). reads_cell d.lock) list))
    (member (codes "to") (count a.to)
    (member (codes "writes") (boolean (list_any (λ (d : Listed). is_write (effect_of d.lock)) list)) no_members)))))))

-- the section of this number with its list, as a list of one
abbrev pub section_data : Facts → ℕ → List Listed → List Data
section_data f section list = section_at f (section_area f section) list ∷ []

-- ---- warnings

-- what is warned of, the name of its function, its first byte and the one after its last
abbrev pub warning_data : Facts → List ℕ → List ℕ → ℕ → ℕ → Data
warning_data f warning function from to = object
    (member (codes "from") (count from)
    (member (codes "function") (string function)
    (member (codes "line") (count (line_of f.lines.items from))
    (member (codes "to") (count to)
    (member (codes "warning") (string warning) no_members)))))

-- a function that `main` does not reach; of another nothing
abbrev pub unreached_data : Facts → ℕ → Named → List Data
unreached_data f number n =
    if is_reached f.map number then [] else warning_data f (codes "unreached") (encode_utf8_all n.name) n.from n.to ∷ []

-- an access that no class has, by the place of its statement; of another instruction nothing
abbrev pub classless_at : Facts → Area → Data
classless_at f a = warning_data f (codes "no class") (function_words f.map a.function) a.from a.to

-- what is warned of the instruction at the pc, as a list: of an access that no class has, and of another nothing
abbrev pub classless_data : Facts → ℕ → Instr → List Data
classless_data f pc i = if has_no_class f.map f.lowering f.classes pc i then classless_at f (area_at f pc) ∷ [] else []

-- all warnings: the functions that `main` does not reach, then the accesses that no class has
abbrev pub warnings_data : Facts → List Data
warnings_data f = numbered (unreached_data f) 0 f.map.functions.items ++ numbered (classless_data f) 0 f.lowering.code

-- ---- the document

-- beside the rest what was added to the text, to call its entries
abbrev pub document_data : Facts → ℕ → List ℕ → List (List Listed) → Data
document_data f k added sections = object
    (member (codes "classes") (array (items_of (classes_from f 0 f.map.classes)))
    (member (codes "driver") (string added)
    (member (codes "functions") (array (items_of (numbered (function_data f) 0 f.map.functions.items)))
    (member (codes "k") (count k)
    (member (codes "sections") (array (items_of (numbered (section_data f) 0 sections)))
    (member (codes "version") (count 1)
    (member (codes "warnings") (array (items_of (warnings_data f))) no_members)))))))

-- on one line
abbrev pub document_text : Facts → ℕ → List ℕ → List (List Listed) → List ℕ
document_text f k added sections = compact_text (document_data f k added sections) ++ 10 ∷ []
