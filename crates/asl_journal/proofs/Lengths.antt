-- How long the bytes of a program are: a program has few enough things.
use Rattle.std.proofs.Common.{◌≡◌, ℕ, suc, ◌+◌, ◌*◌, ◌<◌, ◌≤◌, ◌^◌, List, [], ◌∷◌, ◌++◌, length, Result, Ok, Err, IfOk, refl, ap, ◌∙◌, arith, length-append}
use Rattle.std.specs.Prelude.{slice_get, Some}
use Rattle.std.specs.List.{AllByRecursion, flat_map}
use Rattle.asl_code.specs.declared.image.Function.{Function}
use Rattle.asl_code.specs.declared.image.Image.{Image}
use Rattle.asl_code.specs.declared.instr.Instr.{Instr}
use Rattle.asl_code.specs.declared.lock.Base.{Base}
use Rattle.asl_code.specs.declared.lock.Base.TheVariants as base
use Rattle.asl_code.specs.declared.lock.Lock.{Lock}
use Rattle.asl_code.specs.declared.lock.Lock.TheVariants as lock
use Rattle.asl_code.specs.declared.path.Op.{Op}
use Rattle.asl_code.specs.declared.path.Op.TheVariants as op
use Rattle.asl_code.specs.declared.value.Effect.{Effect}
use Rattle.asl_code.specs.declared.value.Effect.TheVariants as effect
use Rattle.asl_code.specs.Spelling.{instr_bytes, IsInstr}
use Rattle.asl_code.proofs.Instrs.{instr_bytes-eight}
use Rattle.asl_code.specs.Verified.{IsVerified}
use Rattle.asl_code.proofs.FitsLaws.{image_fits}
use Rattle.asl_code.proofs.Versions.{few_locks}
use Rattle.asl_loader.specs.Bytes.{Field, bytes_of, text_of, two, effect_field, op_fields, path_fields, expr_fields, lock_fields, list_fields, counted, class_fields, function_fields, instr_fields, IsLock, IsList, SpellsImage}
use Rattle.asl_loader.proofs.Reader.{text_of-append}

-- as many fields of so many bytes at most
each_short : (X : Type 0) (fields_of : X → List Field) (most : ℕ) → ((x : X) → length (text_of (fields_of x)) ≤ most)
    → (xs : List X) → length (text_of (flat_map fields_of xs)) ≤ most * length xs
each_short X fields_of most short [] = omega arith
each_short X fields_of most short (x ∷ xs) =
    let h = each_short X fields_of most short xs in
    let head = short x in
    let e = ap (length {A = ℕ}) (text_of-append (fields_of x) (flat_map fields_of xs)) ∙ length-append (text_of (fields_of x)) (text_of (flat_map fields_of xs)) in
    omega (arith, e, h, head)

-- the same where each thing is of some kind
each_kind_short : (X : Type 0) (Is : X → Type 0) (fields_of : X → List Field) (most : ℕ) → ((x : X) → Is x → length (text_of (fields_of x)) ≤ most)
    → (xs : List X) → AllByRecursion Is xs → length (text_of (flat_map fields_of xs)) ≤ most * length xs
each_kind_short X Is fields_of most short [] are = omega arith
each_kind_short X Is fields_of most short (x ∷ xs) are =
    let h = each_kind_short X Is fields_of most short xs are.1 in
    let head = short x are.0 in
    let e = ap (length {A = ℕ}) (text_of-append (fields_of x) (flat_map fields_of xs)) ∙ length-append (text_of (fields_of x)) (text_of (flat_map fields_of xs)) in
    omega (arith, e, h, head)

op_short : (o : Op) → length (text_of (op_fields o)) ≤ 2
op_short op.Deref = omega arith
op_short (op.Off offset) = omega arith

effect_short : (e : Effect) → length (bytes_of (effect_field e)) ≡ 1
effect_short effect.Read = refl
effect_short effect.Write = refl

pair_short : (n : ℕ) → length (text_of (two n ∷ [])) ≡ 2
pair_short n = refl

path_short : (path : List Op) → length path ≤ 8 → length (text_of (path_fields path)) ≤ 17
path_short path few =
    let h = each_short Op op_fields 2 op_short path in
    omega (arith, h, few)

expr_short : (b : Base) (e : Effect) (path : List Op) → length path ≤ 8 → length (text_of (expr_fields b e path)) ≤ 21
expr_short (base.Reg r) effect.Read path few = let h = path_short path few in omega (arith, h)
expr_short (base.Reg r) effect.Write path few = let h = path_short path few in omega (arith, h)
expr_short (base.Global g) effect.Read path few = let h = path_short path few in omega (arith, h)
expr_short (base.Global g) effect.Write path few = let h = path_short path few in omega (arith, h)

lock_short : (l : Lock) → IsLock l → length (text_of (lock_fields l)) ≤ 21
lock_short (lock.Root effect.Read) is = omega arith
lock_short (lock.Root effect.Write) is = omega arith
lock_short (lock.Class class effect.Read) is = omega arith
lock_short (lock.Class class effect.Write) is = omega arith
lock_short (lock.Expr expr e) is = expr_short expr.base e expr.path is.1.few

-- a list of a program
abbrev pub IsShortList : List Lock → Type 0
IsShortList locks = IsList locks × (length locks ≤ 256)

list_short : (locks : List Lock) → IsShortList locks → length (text_of (list_fields locks)) ≤ 5378
list_short locks is =
    let h = each_kind_short Lock IsLock lock_fields 21 lock_short locks is.0.each in
    let few = is.1 in
    omega (arith, h, few)

short_lists : (ls : List (List Lock)) → AllByRecursion IsList ls → ((n : ℕ) (locks : List Lock) → slice_get ls n ≡ Some locks → length locks ≤ 256) → AllByRecursion IsShortList ls
short_lists [] are few = tt
short_lists (locks ∷ ls) are few = ((are.0, few 0 locks refl), short_lists ls are.1 (λ n others e. few (suc n) others e))

-- one after the other
lengths : (a b : List Field) → length (text_of (a ++ b)) ≡ length (text_of a) + length (text_of b)
lengths a b = ap (length {A = ℕ}) (text_of-append a b) ∙ length-append (text_of a) (text_of b)

class_short : (class : ℕ) → length (text_of (class_fields class)) ≤ 2
class_short class = omega arith

function_short : (f : Function) → length (text_of (function_fields f)) ≤ 4
function_short f = omega arith

instr_short : (instr : Instr) → IsInstr instr → length (text_of (instr_fields instr)) ≤ 8
instr_short instr is = omega (arith, (instr_bytes-eight instr is).len, length-append (instr_bytes instr) [])

-- the bytes of a program
image_short : (i : Image) (bytes : List ℕ) → SpellsImage i bytes → IsVerified i → length bytes < 2 ^ 32
image_short i bytes spelled verified =
    let facts = image_fits i verified in
    let globals = each_short ℕ class_fields 2 class_short i.globals in
    let functions = each_short Function function_fields 4 function_short i.functions in
    let code = each_kind_short Instr IsInstr instr_fields 8 instr_short i.code spelled.fits.code_fits.each in
    let lists = each_kind_short (List Lock) IsShortList list_fields 5378 list_short i.lists (short_lists i.lists spelled.fits.lists_fit.each (λ n locks at. omega (arith, facts.few_locks n locks at, few_locks i.version))) in
    let e4 = lengths (counted instr_fields i.code) (counted list_fields i.lists) in
    let e3 = lengths (two i.start ∷ []) (counted instr_fields i.code ++ counted list_fields i.lists) in
    let e2 = lengths (counted function_fields i.functions) (two i.start ∷ counted instr_fields i.code ++ counted list_fields i.lists) in
    let e1 = lengths (counted class_fields i.globals) (counted function_fields i.functions ++ (two i.start ∷ counted instr_fields i.code ++ counted list_fields i.lists)) in
    let whole = ap (length {A = ℕ}) spelled.spelled in
    omega (arith, whole, e1, e2, e3, e4, globals, functions, code, lists, facts.few_globals, facts.few_functions, facts.few_instrs, facts.few_lists)

-- the same of what a call returns
pub short_bytes : {V E : Type 0} (items : V → List ℕ) (i : Image) (r : Result V E) → IsVerified i → IfOk r (λ v. SpellsImage i (items v)) → IfOk r (λ v. length (items v) < 2 ^ 32)
short_bytes items i (Ok v) verified spelled = image_short i (items v) spelled verified
short_bytes items i (Err e) verified spelled = tt
