-- What a lock that is needed after an instruction becomes before it (docs/ANALYSIS.md, "Links"). In the manner of
-- S. Cherem, T. Chilimbi, S. Gulwani, "Inferring Locks for Atomic Sections" (2008); the lines are this project's.
use Rattle.std.specs.Prelude.{◌≡◌, ◌+◌, ℕ, Bool, true, false, ◌||◌, ◌&&◌, ◌==◌, nat_le, nat_lt, List, [], ◌∷◌, ◌++◌, ◌⊎◌, length, Option, None, Some, if◌then◌else◌, option_and_then}
use Rattle.std.specs.List.{flat_map}
use Rattle.asl_code.specs.declared.value.Effect.{Effect}
use Rattle.asl_code.specs.declared.value.Effect.TheVariants.{Read, Write}
use Rattle.asl_code.specs.declared.lock.Base.{Base}
use Rattle.asl_code.specs.declared.lock.Base.TheVariants.{Reg, Global}
use Rattle.asl_code.specs.declared.lock.Expr.{Expr}
use Rattle.asl_code.specs.declared.lock.Lock.{Lock}
use Rattle.asl_code.specs.declared.lock.Lock.TheVariants as lock
use Rattle.asl_code.specs.declared.path.Op.{Op}
use Rattle.asl_code.specs.declared.path.Op.TheVariants.{Deref, Off}
use Rattle.asl_code.specs.declared.instr.Instr.{Instr}
use Rattle.asl_code.specs.declared.instr.Instr.TheVariants as instr
use Rattle.asl_points_to.specs.Classes.{Classed, to}
use Rattle.asl_lock_expr.specs.ClassOf.{class_of, base_class, step_class}

-- what links are read against: the classes, whether a function may store to a class, how long a path may be, and the
-- function of the instruction
pub record LinkContext : Type 0 where
  pub classes : Classed
  pub stores : ℕ → ℕ → Bool
  pub k_limit : ℕ
  pub function : ℕ

-- what links of instructions of the function are read against, from these four parts
abbrev pub view : Classed → (ℕ → ℕ → Bool) → ℕ → ℕ → LinkContext
view c stores k_limit function = record { classes = c; stores = stores; k_limit = k_limit; function = function }

-- one of a list of locks
abbrev pub IsOne : List Lock → Lock → Type 0
IsOne [] l = ⊥
IsOne (m ∷ ms) l = (m ≡ l) ⊎ IsOne ms l

-- what a list had, perhaps with more after it
abbrev pub HasGrown : List Lock → List Lock → Type 0
HasGrown old new = (more : List Lock) × (new ≡ old ++ more)

-- a lock on the expression of a base and a path
abbrev pub on : Base → List Op → Effect → Lock
on base path effect = lock.Expr (record { base = base; path = path }) effect

-- the lock on a class, if there is one
abbrev pub class_lock : Effect → Option ℕ → List Lock
class_lock effect None = []
class_lock effect (Some class) = lock.Class class effect ∷ []

-- what becomes of an expression of this class: with too long a path it becomes its class, without a class it is dropped
abbrev pub settled : LinkContext → Expr → Effect → Option ℕ → List Lock
settled v e effect None = []
settled v e effect (Some class) = (if nat_le (length e.path) v.k_limit then lock.Expr e effect else lock.Class class effect) ∷ []

-- the same of a lock: one on a class or on the root stays
abbrev pub settle : LinkContext → Lock → List Lock
settle v (lock.Expr e effect) = settled v e effect (class_of v.classes v.function e)
settle v (lock.Class class effect) = lock.Class class effect ∷ []
settle v (lock.Root effect) = lock.Root effect ∷ []

-- whether the base is the register
abbrev pub is_register : ℕ → Base → Bool
is_register a (Reg register) = register == a
is_register a (Global global) = false

-- whether both are the same class
abbrev pub is_class : Option ℕ → Option ℕ → Bool
is_class (Some class) (Some other) = class == other
is_class class other = false

-- whether the operation is `*`
abbrev pub is_star : Op → Bool
is_star Deref = true
is_star (Off places) = false

-- whether the path begins with `*`
abbrev pub begins_with_star : List Op → Bool
begins_with_star [] = false
begins_with_star (op ∷ ops) = is_star op

-- for each `*` of the path whose address has the class `hit`: register b with the rest of the path
abbrev pub hits : Classed → Option ℕ → ℕ → Effect → Option ℕ → List Op → List Lock
hits c hit b effect class [] = []
hits c hit b effect class (op ∷ ops) =
    (if is_star op && is_class class hit then on (Reg b) ops effect ∷ [] else [])
    ++ hits c hit b effect (option_and_then (step_class c op) class) ops

-- whether there is a class, and it is stored to
abbrev pub is_stored_to : (ℕ → Bool) → Option ℕ → Bool
is_stored_to stores None = false
is_stored_to stores (Some class) = stores class

-- whether a `*` of the path is at an address of a class that is stored to
abbrev pub goes_through : Classed → (ℕ → Bool) → Option ℕ → List Op → Bool
goes_through c stores class [] = false
goes_through c stores class (op ∷ ops) =
    (is_star op && is_stored_to stores class) || goes_through c stores (option_and_then (step_class c op) class) ops

-- an expression on register a becomes these; every other stays
abbrev pub replaced : ℕ → Expr → Effect → List Lock → List Lock
replaced a e effect locks = if is_register a e.base then locks else lock.Expr e effect ∷ []

-- what an expression after the instruction becomes before it, before that is settled
abbrev pub before : LinkContext → Instr → Expr → Effect → List Lock
before v (instr.Move a b) e effect = replaced a e effect (on (Reg b) e.path effect ∷ [])
before v (instr.GlobalAddress a g) e effect = replaced a e effect (on (Global g) e.path effect ∷ [])
before v (instr.FieldAddress a b d) e effect = replaced a e effect (on (Reg b) (Off d ∷ e.path) effect ∷ [])
before v (instr.Load a b) e effect = replaced a e effect (on (Reg b) (Deref ∷ e.path) effect ∷ [])
before v (instr.SetInt a n) e effect = replaced a e effect []
before v (instr.SetNull a) e effect = replaced a e effect []
before v (instr.Add a x y) e effect = replaced a e effect []
before v (instr.Subtract a x y) e effect = replaced a e effect []
before v (instr.LessThan a x y) e effect = replaced a e effect []
before v (instr.Equals a x y) e effect = replaced a e effect []
before v (instr.New a n s) e effect = replaced a e effect []
before v (instr.Store a b) e effect =
    (if is_register a e.base && begins_with_star e.path then [] else lock.Expr e effect ∷ [])
    ++ hits v.classes (to v.classes v.function a) b effect (base_class v.classes v.function e.base) e.path
before v (instr.Call a b g) e effect =
    if is_register a e.base || goes_through v.classes (v.stores g) (base_class v.classes v.function e.base) e.path
    then class_lock effect (class_of v.classes v.function e)
    else lock.Expr e effect ∷ []
before v i e effect = lock.Expr e effect ∷ []

-- the locks before an instruction that a lock after it becomes
abbrev pub link : LinkContext → Instr → Lock → List Lock
link v i (lock.Expr e effect) = flat_map (settle v) (before v i e effect)
link v i (lock.Class class effect) = lock.Class class effect ∷ []
link v i (lock.Root effect) = lock.Root effect ∷ []

-- an expression that is not too long, and has a class; any class or root lock
abbrev pub IsSettled : LinkContext → Lock → Type 0
IsSettled v (lock.Expr e effect) = (nat_le (length e.path) v.k_limit ≡ true) × ((x : ℕ) × (class_of v.classes v.function e ≡ Some x))
IsSettled v (lock.Class class effect) = Unit {0}
IsSettled v (lock.Root effect) = Unit {0}

-- the lock that a load or a store itself needs
abbrev pub accesses : LinkContext → Instr → List Lock
accesses v (instr.Load a b) = settle v (on (Reg b) [] Read)
accesses v (instr.Store a b) = settle v (on (Reg a) [] Write)
accesses v i = []

-- what a lock at a callee's entry becomes at the call: an argument register stands for its parameter, and an expression
-- on another register of the callee is dropped
abbrev pub renamed_on : ℕ → ℕ → Base → List Op → Effect → List Lock
renamed_on first params (Reg n) path effect = if nat_lt n params then on (Reg (first + n)) path effect ∷ [] else []
renamed_on first params (Global g) path effect = on (Global g) path effect ∷ []

-- the same of a lock: `first` is the register of the call's first argument, `params` how many parameters the callee has
abbrev pub renamed : ℕ → ℕ → Lock → List Lock
renamed first params (lock.Expr e effect) = renamed_on first params e.base e.path effect
renamed first params (lock.Class class effect) = lock.Class class effect ∷ []
renamed first params (lock.Root effect) = lock.Root effect ∷ []

-- the expressions before each `*` of a path, which is read after the operations `done`
abbrev pub prefixes : Base → List Op → List Op → List Lock
prefixes base done [] = []
prefixes base done (op ∷ ops) = (if is_star op then on base done Read ∷ [] else []) ++ prefixes base (done ++ op ∷ []) ops

-- the dereferenced prefixes of a lock, which are read when it is evaluated
abbrev pub dereferenced : Lock → List Lock
dereferenced (lock.Expr e effect) = prefixes e.base [] e.path
dereferenced (lock.Class class effect) = []
dereferenced (lock.Root effect) = []

-- the locks before an instruction that a lock after it becomes, with their dereferenced prefixes
abbrev pub IsLinked : LinkContext → Instr → Lock → Lock → Type 0
IsLinked v i l n = (m : Lock) × IsOne (link v i l) m × ((m ≡ n) ⊎ IsOne (dereferenced m) n)
