-- The locks of a program, as C reads them by number (docs/EMBEDDING.md, "A program as data").
use Rattle.std.specs.Prelude.{ℕ, Bool, true, false, List, [], ◌∷◌, length, Option, None, Some, slice_get, option_map, option_and_then}
use Rattle.std.specs.Option.{option_map_or}
use Rattle.asl_code.specs.declared.lock.Base.{Base}
use Rattle.asl_code.specs.declared.lock.Base.TheVariants.{Reg, Global}
use Rattle.asl_code.specs.declared.lock.Expr.{Expr}
use Rattle.asl_code.specs.declared.lock.Lock.{Lock}
use Rattle.asl_code.specs.declared.lock.Lock.TheVariants as lock
use Rattle.asl_code.specs.declared.path.Op.{Op}
use Rattle.asl_code.specs.declared.path.Op.TheVariants.{Deref, Off}
use Rattle.asl_lock_expr.specs.ClassOf.{class_of}
use Rattle.asl_map.specs.declared.map.Map.{Map}
use Rattle.asl_map.specs.declared.text_piece.Area.{Area}
use Rattle.asl_c_programs.specs.Tables.{is_write}
use Rattle.asl_c_programs.specs.declared.entries.LockEntry.{LockEntry}
use Rattle.asl_c_programs.specs.declared.opened.Opened.{Opened}
use Rattle.asl_c_programs.specs.declared.opened.SourceFacts.{SourceFacts}

-- an operation as a number: 256 follows the address in the cell, a number below goes so many cells on
abbrev pub op_number : Op → ℕ
op_number Deref = 256
op_number (Off cells) = cells

-- that of the operation at this place of the path, and 0 behind its end
abbrev pub op_at : List Op → ℕ → ℕ
op_at path n = option_map_or op_number (slice_get path n) 0

-- those of a path, which has 8 at the most
abbrev pub path_numbers : List Op → List ℕ
path_numbers path = op_at path 0 ∷ op_at path 1 ∷ op_at path 2 ∷ op_at path 3 ∷ op_at path 4 ∷ op_at path 5 ∷ op_at path 6 ∷ op_at path 7 ∷ []

-- whether an expression begins at a global, and not at a register
abbrev pub is_global : Base → Bool
is_global (Reg register) = false
is_global (Global global) = true

-- the number of the register or of the global at which an expression begins
abbrev pub base_number : Base → ℕ
base_number (Reg register) = register
base_number (Global global) = global

-- a class; 65535 is none
abbrev pub class_or_none : Option ℕ → ℕ
class_or_none None = 65535
class_or_none (Some class) = class

-- the function whose section asks for the list of this number: in the program of a source, that section has the same number
abbrev pub function_of_list : Map → ℕ → ℕ
function_of_list m list = option_map_or (λ (a : Area). a.function) (slice_get m.sections.items list) 0

-- the class of the cell that an expression of the list denotes, where a source tells it
abbrev pub expr_class : Option SourceFacts → ℕ → Expr → Option ℕ
expr_class None list e = None
expr_class (Some f) list e = class_of f.classes (function_of_list f.map list) e

-- a lock of the list
abbrev pub lock_entry : Option SourceFacts → ℕ → Lock → LockEntry
lock_entry facts list (lock.Root effect) = record {
  kind = 0;
  writes = is_write effect;
  from_global = false;
  operations = 0;
  base = 0;
  class = 65535;
  path = path_numbers [];
}
lock_entry facts list (lock.Class class effect) = record {
  kind = 1;
  writes = is_write effect;
  from_global = false;
  operations = 0;
  base = 0;
  class = class;
  path = path_numbers [];
}
lock_entry facts list (lock.Expr e effect) = record {
  kind = 2;
  writes = is_write effect;
  from_global = is_global e.base;
  operations = length e.path;
  base = base_number e.base;
  class = class_or_none (expr_class facts list e);
  path = path_numbers e.path;
}

-- the lock of this number of the list of this number
abbrev pub lock_at : Opened → ℕ → ℕ → Option LockEntry
lock_at o list n = option_map (lock_entry o.facts list) (option_and_then (λ (locks : List Lock). slice_get locks n) (slice_get o.program.lists list))
