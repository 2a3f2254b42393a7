-- Locks as an assembly text has them (docs/FORMATS.md, "Assembly").
use Rattle.std.specs.Prelude.{ℕ, List, ◌++◌, codes}
use Rattle.std.specs.Fmt.{decimal}
use Rattle.std.specs.List.{flat_map}
use Rattle.asl_code.specs.declared.value.Effect.{Effect}
use Rattle.asl_code.specs.declared.value.Effect.TheVariants.{Read, Write}
use Rattle.asl_code.specs.declared.path.Op.{Op}
use Rattle.asl_code.specs.declared.path.Op.TheVariants.{Deref, Off}
use Rattle.asl_code.specs.declared.lock.Base.{Base}
use Rattle.asl_code.specs.declared.lock.Base.TheVariants.{Reg, Global}
use Rattle.asl_code.specs.declared.lock.Lock.{Lock}
use Rattle.asl_code.specs.declared.lock.Lock.TheVariants.{Root, Class, Expr}

-- the word of an effect
abbrev pub effect_word : Effect → List ℕ
effect_word Read = codes "read"
effect_word Write = codes "write"

-- where an expression begins: `r1`, a register, or `g0`, a global
abbrev pub base_word : Base → List ℕ
base_word (Reg register) = codes "r" ++ decimal register
base_word (Global global) = codes "g" ++ decimal global

-- an operation of a path, behind a blank: `*`, or `.2` for two cells on
abbrev pub op_word : Op → List ℕ
op_word Deref = codes " *"
op_word (Off places) = codes " ." ++ decimal places

-- a lock: `root write`, `class 3 read`, `expr r1 .2 * write`
abbrev pub spell : Lock → List ℕ
spell (Root effect) = codes "root " ++ effect_word effect
spell (Class class effect) = codes "class " ++ decimal class ++ codes " " ++ effect_word effect
spell (Expr e effect) = codes "expr " ++ base_word e.base ++ flat_map op_word e.path ++ codes " " ++ effect_word effect
