-- What a text spells fits: each number of its image is one that its field of a line can hold.
use Rattle.std.proofs.Common.{ℕ, ◌<◌, ◌≤◌, ◌^◌, List, [], ◌∷◌, ◌++◌, length, map, sym, subst}
use Rattle.std.specs.List.{flat_map, AllByRecursion}
use Rattle.asl_code.specs.Versions.{IsVersion}
use Rattle.asl_code.specs.declared.image.Image.{Image}
use Rattle.asl_code.specs.declared.image.Function.{Function}
use Rattle.asl_code.specs.declared.instr.Instr.{Instr}
use Rattle.asl_code.specs.declared.lock.Base.{Base}
use Rattle.asl_code.specs.declared.lock.Base.TheVariants as base
use Rattle.asl_code.specs.declared.lock.Lock.{Lock}
use Rattle.asl_code.specs.declared.lock.Lock.TheVariants as lock
use Rattle.asl_code.specs.declared.path.Op.{Op}
use Rattle.asl_code.specs.declared.path.Op.TheVariants as op
use Rattle.asl_code.specs.Operands.{Operand, operands}
use Rattle.asl_code.specs.Operands as operand
use Rattle.asl_code.specs.Spelling.{IsNumber, IsInstr}
use Rattle.asl_assembler.specs.declared.line.Line.TheVariants as line
use Rattle.asl_assembler.specs.Words.{lines_of}
use Rattle.asl_assembler.specs.Text.{Body, Listing, operand_tokens, base_token, op_token, effect_token, function_lines, list_lines, lines_in, function_of, image_of, worded, Spells}
use Rattle.asl_assembler.specs.Canonical.{FitsField, FitsLine}
use Rattle.asl_assembler.proofs.Lines.{lines_fit}
use Rattle.asl_assembler.proofs.Writes.{all_append}

-- ---- what a field can hold

abbrev pub FitsBase : Base → Type 0
FitsBase (base.Reg r) = r < 256
FitsBase (base.Global g) = g < 2 ^ 16

abbrev pub FitsOp : Op → Type 0
FitsOp op.Deref = Unit {0}
FitsOp (op.Off offset) = offset < 256

abbrev pub FitsLock : Lock → Type 0
FitsLock (lock.Root effect) = Unit {0}
FitsLock (lock.Class class effect) = class < 2 ^ 16
FitsLock (lock.Expr expr effect) = FitsBase expr.base × (length expr.path ≤ 8) × AllByRecursion FitsOp expr.path

abbrev pub FitsRegisters : Function → Type 0
FitsRegisters f = (f.params < 256) × (f.regs < 256)

-- each number of the image is one that its field can hold; the length of a function is not written
pub record FitsFields (i : Image) : Type 0 where
  pub version : IsVersion i.version
  pub classes : i.classes < 2 ^ 16
  pub globals : AllByRecursion (λ class. class < 2 ^ 16) i.globals
  pub functions : AllByRecursion FitsRegisters i.functions
  pub start : i.start < 2 ^ 16
  pub code : AllByRecursion IsInstr i.code
  pub lists : AllByRecursion (AllByRecursion FitsLock) i.lists

-- ---- lists

front : {X : Type 0} (P : X → Type 0) (xs ys : List X) → AllByRecursion P (xs ++ ys) → AllByRecursion P xs
front P [] ys h = tt
front P (x ∷ xs) ys h = (h.0, front P xs ys h.1)

back : {X : Type 0} (P : X → Type 0) (xs ys : List X) → AllByRecursion P (xs ++ ys) → AllByRecursion P ys
back P [] ys h = h
back P (x ∷ xs) ys h = back P xs ys h.1

from_map : {X Y : Type 0} (P : Y → Type 0) (Q : X → Type 0) (f : X → Y) → ((x : X) → P (f x) → Q x) → (xs : List X) → AllByRecursion P (map f xs) → AllByRecursion Q xs
from_map P Q f g [] h = tt
from_map P Q f g (x ∷ xs) h = (g x h.0, from_map P Q f g xs h.1)

-- ---- numbers

operand_fits : (o : Operand) → AllByRecursion FitsField (operand_tokens o) → IsNumber o
operand_fits (operand.Register register) h = h.0
operand_fits (operand.Integer value) h = h.0
operand_fits (operand.Global global) h = h.0
operand_fits (operand.Offset offset) h = h.0
operand_fits (operand.Cells cells) h = h.0
operand_fits (operand.Class class) h = h.0
operand_fits (operand.Target target) h = h.0
operand_fits (operand.Callee first function) h = (h.0, h.1.0)
operand_fits (operand.Locks list) h = h.0

operands_fit : (os : List Operand) → AllByRecursion FitsField (flat_map operand_tokens os) → AllByRecursion IsNumber os
operands_fit [] h = tt
operands_fit (o ∷ os) h =
    (operand_fits o (front FitsField (operand_tokens o) (flat_map operand_tokens os) h), operands_fit os (back FitsField (operand_tokens o) (flat_map operand_tokens os) h))

instr_fits : (i : Instr) → FitsLine (line.Instruction i) → IsInstr i
instr_fits i h = operands_fit (operands i) h.fields.1

base_fits : (b : Base) → FitsField (base_token b) → FitsBase b
base_fits (base.Reg r) h = h
base_fits (base.Global g) h = h

op_fits : (o : Op) → FitsField (op_token o) → FitsOp o
op_fits op.Deref h = tt
op_fits (op.Off offset) h = h

lock_fits : (l : Lock) → FitsLine (line.Lock l) → FitsLock l
lock_fits (lock.Root e) h = tt
lock_fits (lock.Class class e) h = h.fields.1.0
lock_fits (lock.Expr expr e) h =
    (base_fits expr.base h.fields.1.0, h.kept, from_map FitsField FitsOp op_token op_fits expr.path (front FitsField (map op_token expr.path) (effect_token e ∷ []) h.fields.1.1))

-- ---- the tables

functions_fit : (fs : List Body) → AllByRecursion FitsLine (flat_map function_lines fs) → AllByRecursion FitsRegisters (map function_of fs)
functions_fit [] h = tt
functions_fit (f ∷ fs) h =
    let here = front FitsLine (function_lines f) (flat_map function_lines fs) h in
    ((here.0.fields.1.0, here.0.fields.1.1.0), functions_fit fs (back FitsLine (function_lines f) (flat_map function_lines fs) h))

code_fits : (fs : List Body) → AllByRecursion FitsLine (flat_map function_lines fs) → AllByRecursion IsInstr (flat_map (λ (f : Body). f.code) fs)
code_fits [] h = tt
code_fits (f ∷ fs) h =
    let here = front FitsLine (function_lines f) (flat_map function_lines fs) h in
    all_append IsInstr f.code (flat_map (λ (g : Body). g.code) fs) (from_map FitsLine IsInstr line.Instruction instr_fits f.code here.1)
    (code_fits fs (back FitsLine (function_lines f) (flat_map function_lines fs) h))

lists_fit : (ls : List (List Lock)) → AllByRecursion FitsLine (flat_map list_lines ls) → AllByRecursion (AllByRecursion FitsLock) ls
lists_fit [] h = tt
lists_fit (locks ∷ ls) h =
    let here = front FitsLine (list_lines locks) (flat_map list_lines ls) h in
    (from_map FitsLine FitsLock line.Lock lock_fits locks here.1, lists_fit ls (back FitsLine (list_lines locks) (flat_map list_lines ls) h))

global_fits : (class : ℕ) → FitsLine (line.Global class) → class < 2 ^ 16
global_fits class h = h.fields.1.0

-- ---- the image

fields_of : (l : Listing) → AllByRecursion FitsLine (lines_in l) → FitsFields (image_of l)
fields_of l h =
    let globals = map line.Global l.globals in
    let after = line.Entry l.start ∷ (flat_map function_lines l.functions ++ flat_map list_lines l.lists) in
    let rest = back FitsLine globals after h.1.1 in
    let functions = front FitsLine (flat_map function_lines l.functions) (flat_map list_lines l.lists) rest.1 in
    record {
      version = h.0.kept;
      classes = h.1.0.fields.1.0;
      globals = from_map FitsLine (λ class. class < 2 ^ 16) line.Global global_fits l.globals (front FitsLine globals after h.1.1);
      functions = functions_fit l.functions functions;
      start = rest.0.fields.1.0;
      code = code_fits l.functions functions;
      lists = lists_fit l.lists (back FitsLine (flat_map function_lines l.functions) (flat_map list_lines l.lists) rest.1);
    }

pub spelled_fields : (text : List ℕ) (image : Image) → Spells text image → FitsFields image
spelled_fields text image s = subst FitsFields (sym s.2) (fields_of s.0 (lines_fit (lines_in s.0) (worded (lines_of text)) s.1))
