-- The tables of a program, as C reads them by number (docs/EMBEDDING.md, "A program as data").
use Rattle.std.specs.Prelude.{◌≡◌, ℕ, Bool, true, false, ◌==◌, nat_lt, List, length, count_by, Option, None, Some, slice_get, option_map, is_some, if◌then◌else◌}
use Rattle.std.specs.List.{list_any}
use Rattle.asl_code.specs.Bodies.{first_of}
use Rattle.asl_code.specs.Fits.{LiesIn}
use Rattle.asl_code.specs.Locks.{effect_of}
use Rattle.asl_code.specs.declared.image.Function.{Function}
use Rattle.asl_code.specs.declared.image.Image.{Image}
use Rattle.asl_code.specs.declared.instr.Instr.{Instr}
use Rattle.asl_code.specs.declared.instr.Instr.TheVariants as instr
use Rattle.asl_code.specs.declared.lock.Lock.{Lock}
use Rattle.asl_code.specs.declared.lock.Lock.TheVariants as lock
use Rattle.asl_code.specs.declared.path.Op.{Op}
use Rattle.asl_code.specs.declared.path.Op.TheVariants.{Deref, Off}
use Rattle.asl_code.specs.declared.value.Effect.{Effect}
use Rattle.asl_code.specs.declared.value.Effect.TheVariants.{Read, Write}
use Rattle.asl_lower.specs.OpenSections.{is_acquire, sections_before}
use Rattle.asl_c_programs.specs.declared.entries.Counts.{Counts}
use Rattle.asl_c_programs.specs.declared.entries.FunctionEntry.{FunctionEntry}
use Rattle.asl_c_programs.specs.declared.entries.ListEntry.{ListEntry}
use Rattle.asl_c_programs.specs.declared.entries.SectionEntry.{SectionEntry}
use Rattle.asl_c_programs.specs.declared.opened.Opened.{Opened}

-- ---- which locks are named

-- the lock is the root's
abbrev pub is_root : Lock → Bool
is_root (lock.Root effect) = true
is_root (lock.Class class effect) = false
is_root (lock.Expr expr effect) = false

-- the lock is this class's
abbrev pub is_of_class : ℕ → Lock → Bool
is_of_class wanted (lock.Root effect) = false
is_of_class wanted (lock.Class class effect) = class == wanted
is_of_class wanted (lock.Expr expr effect) = false

-- some list has such a lock
abbrev pub some_list_has : (Lock → Bool) → Image → Bool
some_list_has test i = list_any (list_any test) i.lists

-- ---- counts

-- how many sections the code has: one for each `acq`
abbrev pub section_count_of : List Instr → ℕ
section_count_of code = count_by is_acquire code

-- what C gets of a whole program: its version, how many it has of each part, where threads start, whether a list has a lock on the root,
-- and whether it was opened from a source
abbrev pub counts_of : Opened → Counts
counts_of o = record {
  version = o.program.version;
  classes = o.program.classes;
  globals = length o.program.globals;
  functions = length o.program.functions;
  start = o.program.start;
  instructions = length o.program.code;
  sections = section_count_of o.program.code;
  lists = length o.program.lists;
  names_root = some_list_has is_root o.program;
  has_source = is_some o.facts;
}

-- ---- entries

-- whether some list has a lock on the class, if there is the class
abbrev pub class_named : Image → ℕ → Option Bool
class_named i class = if nat_lt class i.classes then Some (some_list_has (is_of_class class) i) else None

-- a function, which begins at this place
abbrev pub function_entry : ℕ → Function → FunctionEntry
function_entry first f = record { parameters = f.params; registers = f.regs; first = first; instructions = f.len }

-- what C gets of the function of this number, if there is one
abbrev pub function_at : Image → ℕ → Option FunctionEntry
function_at i n = option_map (function_entry (first_of i.functions n)) (slice_get i.functions n)

-- the section of this number, in the order of the code: its `acq`, the list of that, and the function in whose body it lies
pub record IsSection (i : Image) (n : ℕ) (s : SectionEntry) : Type 0 where
  pub enters : slice_get i.code s.place ≡ Some (instr.Acquire s.list)
  pub number : sections_before i.code s.place ≡ n
  pub body : (f : Function) × LiesIn i s.function s.place f

-- the effect is that of a write
abbrev pub is_write : Effect → Bool
is_write Read = false
is_write Write = true

-- the operation follows the address in the cell, which is read for that
abbrev pub is_follow : Op → Bool
is_follow Deref = true
is_follow (Off cells) = false

-- to evaluate the lock, a cell is read
abbrev pub reads_cell : Lock → Bool
reads_cell (lock.Root effect) = false
reads_cell (lock.Class class effect) = false
reads_cell (lock.Expr expr effect) = list_any is_follow expr.path

-- the lock is for writing
abbrev pub is_for_writing : Lock → Bool
is_for_writing l = is_write (effect_of l)

-- what C gets of a list: how many locks it has, whether its evaluation reads cells, and whether some lock is for writing
abbrev pub list_entry : List Lock → ListEntry
list_entry locks = record { locks = length locks; reads_cells = list_any reads_cell locks; writes = list_any is_for_writing locks }

-- what C gets of the list of this number, if there is one
abbrev pub list_at : Image → ℕ → Option ListEntry
list_at i n = option_map list_entry (slice_get i.lists n)
