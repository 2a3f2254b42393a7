-- The numbers of an image that bytes spell fit the words of its canonical text.
use Rattle.std.proofs.Common.{ℕ, zero, suc, ◌<◌, ◌^◌, List, [], ◌∷◌, ◌++◌, map, take, drop}
use Rattle.std.specs.List.{flat_map, AllByRecursion}
use Rattle.asl_code.specs.Operands.{Operand, operands}
use Rattle.asl_code.specs.Operands as operand
use Rattle.asl_code.specs.Spelling.{IsNumber, IsInstr}
use Rattle.asl_code.specs.Versions.{IsVersion}
use Rattle.asl_code.specs.declared.image.Function.{Function}
use Rattle.asl_code.specs.declared.image.Image.{Image}
use Rattle.asl_code.specs.declared.instr.Instr.{Instr}
use Rattle.asl_code.specs.declared.lock.Base.{Base}
use Rattle.asl_code.specs.declared.lock.Base.TheVariants as base
use Rattle.asl_code.specs.declared.lock.Lock.{Lock}
use Rattle.asl_code.specs.declared.lock.Lock.TheVariants as lock
use Rattle.asl_code.specs.declared.path.Op.{Op}
use Rattle.asl_code.specs.declared.path.Op.TheVariants as op
use Rattle.asl_code.specs.declared.value.Effect.{Effect}
use Rattle.asl_code.proofs.Versions.{small_version}
use Rattle.asl_assembler.specs.Text.{Body, lock_tokens, operand_tokens, base_token, op_token, effect_token, HasPath, function_lines, list_lines, lines_in}
use Rattle.asl_assembler.specs.Canonical.{bodies, FitsField, FitsLine, FitsText}
use Rattle.asl_assembler.proofs.Writes.{all_append}
use Rattle.asl_loader.specs.Bytes.{IsFunction, IsOp, IsBase, IsLock, IsList, IsImage}

-- ---- the words of a line

operand_fits : (o : Operand) → IsNumber o → AllByRecursion FitsField (operand_tokens o)
operand_fits (operand.Register register) h = (h, tt)
operand_fits (operand.Integer value) h = (h, tt)
operand_fits (operand.Global global) h = (h, tt)
operand_fits (operand.Offset offset) h = (h, tt)
operand_fits (operand.Cells cells) h = (h, tt)
operand_fits (operand.Class class) h = (h, tt)
operand_fits (operand.Target target) h = (h, tt)
operand_fits (operand.Callee first function) h = (h.0, (h.1, tt))
operand_fits (operand.Locks list) h = (h, tt)

operands_fit : (os : List Operand) → AllByRecursion IsNumber os → AllByRecursion FitsField (flat_map operand_tokens os)
operands_fit [] h = tt
operands_fit (o ∷ os) h = all_append FitsField (operand_tokens o) (flat_map operand_tokens os) (operand_fits o h.0) (operands_fit os h.1)

base_fits : (b : Base) → IsBase b → FitsField (base_token b)
base_fits (base.Reg register) h = h
base_fits (base.Global global) h = h

op_fits : (o : Op) → IsOp o → FitsField (op_token o)
op_fits op.Deref h = tt
op_fits (op.Off offset) h = h

ops_fit : (ops : List Op) (effect : Effect) → AllByRecursion IsOp ops → AllByRecursion FitsField (map op_token ops ++ effect_token effect ∷ [])
ops_fit [] effect h = (tt, tt)
ops_fit (o ∷ ops) effect h = (op_fits o h.0, ops_fit ops effect h.1)

lock_fits : (l : Lock) → IsLock l → AllByRecursion FitsField (lock_tokens l) × HasPath l
lock_fits (lock.Root effect) h = ((tt, (tt, tt)), tt)
lock_fits (lock.Class class effect) h = ((tt, (h, (tt, tt))), tt)
lock_fits (lock.Expr expr effect) h = ((tt, (base_fits expr.base h.0, ops_fit expr.path effect h.1.each)), h.1.few)

-- ---- the lines of a function, of a list, and of all of them

function_fits : (f : Function) (code : List Instr) → IsFunction f → AllByRecursion IsInstr code → AllByRecursion FitsLine (function_lines (record { params = f.params; regs = f.regs; code = code }))
function_fits f [] h k = (record { fields = (tt, (h.params_fits, (h.regs_fits, tt))); kept = tt }, tt)
function_fits f (i ∷ code) h k =
    let rest = function_fits f code h k.1 in
    (rest.0, (record { fields = (tt, operands_fit (operands i) k.0); kept = tt }, rest.1))

list_fits : (locks : List Lock) → AllByRecursion IsLock locks → AllByRecursion FitsLine (list_lines locks)
list_fits [] h = (record { fields = (tt, tt); kept = tt }, tt)
list_fits (l ∷ locks) h =
    let here = lock_fits l h.0 in
    let rest = list_fits locks h.1 in
    (rest.0, (record { fields = here.0; kept = here.1 }, rest.1))

lists_fit : (lists : List (List Lock)) → AllByRecursion IsList lists → AllByRecursion FitsLine (flat_map list_lines lists)
lists_fit [] h = tt
lists_fit (locks ∷ lists) h = all_append FitsLine (list_lines locks) (flat_map list_lines lists) (list_fits locks h.0.each) (lists_fit lists h.1)

all_take : {X : Type 0} (P : X → Type 0) (n : ℕ) (xs : List X) → AllByRecursion P xs → AllByRecursion P (take n xs)
all_take P zero xs h = tt
all_take P (suc n) [] h = tt
all_take P (suc n) (x ∷ xs) h = (h.0, all_take P n xs h.1)

all_drop : {X : Type 0} (P : X → Type 0) (n : ℕ) (xs : List X) → AllByRecursion P xs → AllByRecursion P (drop n xs)
all_drop P zero xs h = h
all_drop P (suc n) [] h = tt
all_drop P (suc n) (x ∷ xs) h = all_drop P n xs h.1

functions_fit : (functions : List Function) (code : List Instr) → AllByRecursion IsFunction functions → AllByRecursion IsInstr code → AllByRecursion FitsLine (flat_map function_lines (bodies functions code))
functions_fit [] code h k = tt
functions_fit (f ∷ functions) code h k =
    all_append FitsLine (function_lines (record { params = f.params; regs = f.regs; code = take f.len code })) (flat_map function_lines (bodies functions (drop f.len code)))
    (function_fits f (take f.len code) h.0 (all_take IsInstr f.len code k)) (functions_fit functions (drop f.len code) h.1 (all_drop IsInstr f.len code k))

-- ---- the text

module _ (version classes start : ℕ) (functions : List Body) (lists : List (List Lock)) where
  listing_fits : (globals : List ℕ) → IsVersion version → classes < 2 ^ 16 → AllByRecursion (λ class. class < 2 ^ 16) globals → start < 2 ^ 16 → AllByRecursion FitsLine (flat_map function_lines functions) →
      AllByRecursion FitsLine (flat_map list_lines lists) → AllByRecursion FitsLine (lines_in (record { version = version; classes = classes; globals = globals; start = start; functions = functions; lists = lists }))
  listing_fits [] v c g s f l = (
    record { fields = (tt, (small_version version v, tt)); kept = v },
    (
      record { fields = (tt, (c, tt)); kept = tt },
      (record { fields = (tt, (s, tt)); kept = tt }, all_append FitsLine (flat_map function_lines functions) (flat_map list_lines lists) f l),
    ),
  )
  listing_fits (class ∷ globals) v c g s f l =
      let rest = listing_fits globals v c g.1 s f l in
      (rest.0, (rest.1.0, (record { fields = (tt, (g.0, tt)); kept = tt }, rest.1.1)))

pub image_text_fits : (i : Image) → IsImage i → FitsText i
image_text_fits i h =
    listing_fits i.version i.classes i.start (bodies i.functions i.code) i.lists i.globals h.version_is h.classes_fits h.globals_fit.each h.start_fits
    (functions_fit i.functions i.code h.functions_fit.each h.code_fits.each) (lists_fit i.lists h.lists_fit.each)
