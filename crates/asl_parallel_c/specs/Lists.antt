-- The data of globals and of lock lists.
use Rattle.std.specs.Prelude.{ℕ, ◌+◌, List, [], ◌∷◌, ◌++◌, length, codes}
use Rattle.asl_code.specs.declared.lock.Base.{Base}
use Rattle.asl_code.specs.declared.lock.Base.TheVariants as base
use Rattle.asl_code.specs.declared.lock.Lock.{Lock}
use Rattle.asl_code.specs.declared.lock.Lock.TheVariants as lock
use Rattle.asl_code.specs.declared.path.Op.{Op}
use Rattle.asl_code.specs.declared.path.Op.TheVariants as op
use Rattle.asl_code.specs.declared.value.Effect.{Effect}
use Rattle.asl_code.specs.declared.value.Effect.TheVariants as effect
use Rattle.asl_parallel_c.specs.Template.{filled, repeated}

-- the classes of globals, a line each
abbrev pub class_lines : List ℕ → List ℕ
class_lines [] = []
class_lines (class ∷ classes) = filled (codes "  @,\n") (class ∷ []) ++ class_lines classes

-- the table of the classes of globals
abbrev pub classes_text : List ℕ → List ℕ
classes_text classes = codes "static const uint16_t aslr_classes[] = {\n" ++ (class_lines classes ++ codes "  0};\n\n")

-- the mode of a lock
abbrev pub mode_text : Effect → List ℕ
mode_text effect.Read = codes "ASL_S"
mode_text effect.Write = codes "ASL_X"

-- where an expression begins
abbrev pub base_text : Base → List ℕ
base_text (base.Reg register) = filled (codes ", ASLR_REGISTER, @") (register ∷ [])
base_text (base.Global global) = filled (codes ", ASLR_GLOBAL, @") (global ∷ [])

-- an operation of a path
abbrev pub op_text : Op → List ℕ
op_text op.Deref = codes ", ASLR_FOLLOW"
op_text (op.Off offset) = filled (codes ", @") (offset ∷ [])

-- the operations of a path
abbrev pub ops_text : List Op → List ℕ
ops_text [] = []
ops_text (o ∷ os) = op_text o ++ ops_text os

-- a path: how many operations it has, and these
abbrev pub path_text : List Op → List ℕ
path_text path = filled (codes ", {@") (length path ∷ []) ++ (ops_text path ++ codes "}},\n")

-- the line of a lock
abbrev pub lock_text : Lock → List ℕ
lock_text (lock.Root effect) = codes "  {ASL_ROOT, " ++ (mode_text effect ++ codes ", ASLR_REGISTER, 0, {0}},\n")
lock_text (lock.Class class effect) = codes "  {ASL_CLASS, " ++ (mode_text effect ++ filled (codes ", ASLR_REGISTER, @, {0}},\n") (class ∷ []))
lock_text (lock.Expr expr effect) = codes "  {ASL_LEAF, " ++ (mode_text effect ++ (base_text expr.base ++ path_text expr.path))

-- the lines of locks
abbrev pub lock_lines : List Lock → List ℕ
lock_lines [] = []
lock_lines (l ∷ ls) = lock_text l ++ lock_lines ls

-- the list of this number
abbrev pub list_text : ℕ → List Lock → List ℕ
list_text number locks = filled (codes "static const aslr_lock aslr_list@[] = {\n") (number ∷ []) ++ (lock_lines locks ++ codes "  {ASLR_END, 0, 0, 0, {0}}};\n\n")

-- the lists, numbered from this number on
abbrev pub lists_from : ℕ → List (List Lock) → List ℕ
lists_from number [] = []
lists_from number (l ∷ ls) = list_text number l ++ lists_from (number + 1) ls

-- the table of the lists
abbrev pub table_text : ℕ → List ℕ
table_text count = codes "static const aslr_lock *const aslr_lists[] = {\n" ++ (repeated (codes "  aslr_list@,\n") 0 count ++ codes "  NULL};\n\n")
