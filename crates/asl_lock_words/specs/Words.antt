-- Locks in the words of the source (docs/ANALYSIS.md, "Explanations"): `write *p`, `read p[1]`, `write a`.
use Rattle.std.specs.Prelude.{ℕ, List, [], ◌∷◌, ◌++◌, if◌then◌else◌, Option, None, Some, codes, encode_utf8_all, string_bytes, slice_get}
use Rattle.std.specs.Fmt.{decimal}
use Rattle.asl_code.specs.declared.lock.Base.{Base}
use Rattle.asl_code.specs.declared.lock.Base.TheVariants.{Reg, Global}
use Rattle.asl_code.specs.declared.lock.Lock.{Lock}
use Rattle.asl_code.specs.declared.lock.Lock.TheVariants as lock
use Rattle.asl_code.specs.declared.path.Op.{Op}
use Rattle.asl_code.specs.declared.path.Op.TheVariants.{Deref, Off}
use Rattle.asl_lower.specs.Names.{has_name}
use Rattle.asl_lock_words.specs.Assembly.{spell, effect_word}
use Rattle.asl_map.specs.declared.map.Map.{Map}
use Rattle.asl_map.specs.Names.{function_name, register_name}
use Rattle.asl_lock_words.specs.declared.source_words.Shape.{Shape}
use Rattle.asl_lock_words.specs.declared.source_words.Shape.TheVariants.{Cell, Plain, Signed}
use Rattle.asl_lock_words.specs.declared.source_words.Pointer.{Pointer}

-- a name, which is ASCII, or a letter and a number where there is none
abbrev pub name_or : Option (List ℕ) → List ℕ → ℕ → List ℕ
name_or None letter number = letter ++ decimal number
name_or (Some name) letter number = encode_utf8_all name

-- the name at a base
abbrev pub base_name : Map → ℕ → Base → List ℕ
base_name m function (Reg register) = name_or (register_name m function register) (codes "r") register
base_name m function (Global global) = name_or (slice_get m.globals.items global) (codes "g") global

-- the name of the function of this number, or `f` and the number
abbrev pub function_words : Map → ℕ → List ℕ
function_words m function = name_or (function_name m function) (codes "f") function

-- a local of this name: where a global has the same name, behind the name of its function and a point
abbrev pub local_words : Map → ℕ → List ℕ → List ℕ
local_words m function name =
    if has_name m.globals.items name then function_words m function ++ (codes "." ++ encode_utf8_all name) else encode_utf8_all name

-- a register without a name: its number behind the name of its function and a point
abbrev pub unnamed_words : Map → ℕ → ℕ → List ℕ
unnamed_words m function register = function_words m function ++ (codes "." ++ decimal register)

-- the words for a register of the function, which has this name or none
abbrev pub words_of_register : Map → ℕ → ℕ → Option (List ℕ) → List ℕ
words_of_register m function register None = unnamed_words m function register
words_of_register m function register (Some name) = local_words m function name

-- the words for a register of the function, by its name if it has one, else by its number
abbrev pub register_words : Map → ℕ → ℕ → List ℕ
register_words m function register = words_of_register m function register (register_name m function register)

-- the words for a base: those of `base_name`, but that a local which has the name of a global, or none, stands behind its function's name
abbrev pub base_words : Map → ℕ → Base → List ℕ
base_words m function (Reg register) = register_words m function register
base_words m function (Global global) = base_name m function (Global global)

-- a pointer in words: whether they spell the pointer, as `p`, or the cell that it points to, as `a` of a global
pub record Spelled : Type 0 where
  pub shape : Shape
  pub text : List ℕ

-- a `Pointer` of the code as such a pointer in words
abbrev pub pointer_of : Pointer → Spelled
pointer_of p = record { shape = p.shape; text = string_bytes p.text }

-- a local is a pointer, a global a cell
abbrev pub base_shape : Base → Shape
base_shape (Reg register) = Plain
base_shape (Global global) = Cell

-- the pointer at which an expression of the function begins, in words
abbrev pub base_pointer : Map → ℕ → Base → Spelled
base_pointer m function base = record { shape = base_shape base; text = base_words m function base }

-- the cell at a pointer: `a`, `*p`, `**p`
abbrev pub cell_of : Shape → List ℕ → List ℕ
cell_of Cell text = text
cell_of Plain text = codes "*" ++ text
cell_of Signed text = codes "*" ++ text

-- the cell so many cells on: `(&a)[1]`, `p[1]`, `(*p)[1]`
abbrev pub past : Shape → List ℕ → ℕ → List ℕ
past Cell text cells = codes "(&" ++ text ++ codes ")[" ++ decimal cells ++ codes "]"
past Plain text cells = text ++ codes "[" ++ decimal cells ++ codes "]"
past Signed text cells = codes "(" ++ text ++ codes ")[" ++ decimal cells ++ codes "]"

-- what is spelled of a pointer that is loaded from the cell at another
abbrev pub loaded : Shape → Shape
loaded Cell = Plain
loaded Plain = Signed
loaded Signed = Signed

-- an operation moves the pointer on, or loads one from its cell
abbrev pub after_op : Spelled → Op → Spelled
after_op p (Off cells) = record { shape = Cell; text = past p.shape p.text cells }
after_op p Deref = record { shape = loaded p.shape; text = cell_of p.shape p.text }

-- the pointer after all operations of a path, in order
abbrev pub after_ops : Spelled → List Op → Spelled
after_ops p [] = p
after_ops p (op ∷ ops) = after_ops (after_op p op) ops

-- the cell that a path leads to from a base of a function
abbrev pub cell_words : Map → ℕ → Base → List Op → List ℕ
cell_words m function base ops = let p = after_ops (base_pointer m function base) ops in cell_of p.shape p.text

-- a lock: its effect and its cell; one on a class or on the root as an assembly text has it
abbrev pub lock_words : Map → ℕ → Lock → List ℕ
lock_words m function (lock.Expr e effect) = effect_word effect ++ codes " " ++ cell_words m function e.base e.path
lock_words m function (lock.Class class effect) = spell (lock.Class class effect)
lock_words m function (lock.Root effect) = spell (lock.Root effect)
