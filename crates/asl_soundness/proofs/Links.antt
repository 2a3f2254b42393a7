-- The law of one step for locks: it is enough to look at expressions before they settle; and links begin on what is there.
use Rattle.std.proofs.Common.{ℕ, ◌<◌, ◌&&◌, ◌++◌, Bool, true, false, cond, List, [], ◌∷◌, Option, Some, None, length, refl, subst, inl, inr}
use Rattle.std.specs.Prelude.{option_and_then, nat_le}
use Rattle.std.specs.List.{flat_map}
use Rattle.asl_code.specs.declared.value.Value.{Value}
use Rattle.asl_code.specs.declared.value.Effect.{Effect}
use Rattle.asl_code.specs.declared.lock.Base.TheVariants.{Reg, Global}
use Rattle.asl_code.specs.declared.lock.Expr.{Expr}
use Rattle.asl_code.specs.declared.lock.Lock.{Lock}
use Rattle.asl_code.specs.declared.lock.Lock.TheVariants as lock
use Rattle.asl_code.specs.declared.path.Op.{Op}
use Rattle.asl_code.specs.declared.path.Op.TheVariants.{Deref, Off}
use Rattle.asl_code.specs.declared.instr.Instr.{Instr}
use Rattle.asl_code.specs.declared.instr.Instr.TheVariants as instr
use Rattle.asl_points_to.specs.Classes.{Classed, to}
use Rattle.asl_lock_expr.specs.ClassOf.{class_of as expr_class, base_class, step_class}
use Rattle.asl_lock_expr.specs.Links.{LinkContext, on, class_lock, settled, settle, is_register, is_class, is_star, begins_with_star, hits, replaced, before, link}
use Rattle.asl_lock_expr.proofs.Ones.{one_either}
use Rattle.asl_machine.specs.State.{Object}
use Rattle.asl_machine.specs.Cover.{Cover}
use Rattle.asl_soundness.specs.Protected.{Protected, BaseThere, LockThere}
use Rattle.asl_soundness.proofs.Protecting.{Stands, AllProtected, AllThere, settled_all}

-- the global that the instruction names is there
abbrev pub GlobalsThere : Classed → Instr → Type 0
GlobalsThere c (instr.GlobalAddress a g) = g < length c.globals
GlobalsThere c i = Unit {0}

-- ---- what an expression becomes begins on what is there

pub none_there : (c : Classed) → AllThere c []
none_there c m o = absurd o

pub alone_there : (c : Classed) (n : Lock) → LockThere c n → AllThere c (n ∷ [])
alone_there c n there m (inl is) = subst (LockThere c) is there
alone_there c n there m (inr o) = absurd o

pub either_there : (c : Classed) (b : Bool) (ms ns : List Lock) → AllThere c ms → AllThere c ns → AllThere c (cond b ms ns)
either_there c true ms ns p q = p
either_there c false ms ns p q = q

pub both_there : (c : Classed) (ms ns : List Lock) → AllThere c ms → AllThere c ns → AllThere c (ms ++ ns)
both_there c ms ns p q m o = elim (one_either ms ns m o) [ inl x ↦ p m x | inr x ↦ q m x ]

class_there : (c : Classed) (effect : Effect) (o : Option ℕ) → AllThere c (class_lock effect o)
class_there c effect None = none_there c
class_there c effect (Some x) = alone_there c (lock.Class x effect) tt

hits_there : (c : Classed) (hit : Option ℕ) (b : ℕ) (effect : Effect) (class : Option ℕ) (ops : List Op) → AllThere c (hits c hit b effect class ops)
hits_there c hit b effect class [] = none_there c
hits_there c hit b effect class (op ∷ ops) =
    both_there c _ _ (either_there c (is_star op && is_class class hit) (on (Reg b) ops effect ∷ []) [] (alone_there c (on (Reg b) ops effect) tt) (none_there c))
    (hits_there c hit b effect (option_and_then (step_class c op) class) ops)

replaced_there : (c : Classed) (a : ℕ) (e : Expr) (effect : Effect) (locks : List Lock) → BaseThere c e.base → AllThere c locks → AllThere c (replaced a e effect locks)
replaced_there c a e effect locks there all = either_there c (is_register a e.base) locks (lock.Expr e effect ∷ []) all (alone_there c (lock.Expr e effect) there)

before_there : (v : LinkContext) (i : Instr) (e : Expr) (effect : Effect) → GlobalsThere v.classes i → BaseThere v.classes e.base → AllThere v.classes (before v i e effect)
before_there v (instr.Move a b) e effect g there = replaced_there v.classes a e effect _ there (alone_there v.classes (on (Reg b) e.path effect) tt)
before_there v (instr.GlobalAddress a n) e effect g there = replaced_there v.classes a e effect _ there (alone_there v.classes (on (Global n) e.path effect) g)
before_there v (instr.FieldAddress a b d) e effect g there = replaced_there v.classes a e effect _ there (alone_there v.classes (on (Reg b) (Off d ∷ e.path) effect) tt)
before_there v (instr.Load a b) e effect g there = replaced_there v.classes a e effect _ there (alone_there v.classes (on (Reg b) (Deref ∷ e.path) effect) tt)
before_there v (instr.SetInt a n) e effect g there = replaced_there v.classes a e effect [] there (none_there v.classes)
before_there v (instr.SetNull a) e effect g there = replaced_there v.classes a e effect [] there (none_there v.classes)
before_there v (instr.Add a x y) e effect g there = replaced_there v.classes a e effect [] there (none_there v.classes)
before_there v (instr.Subtract a x y) e effect g there = replaced_there v.classes a e effect [] there (none_there v.classes)
before_there v (instr.LessThan a x y) e effect g there = replaced_there v.classes a e effect [] there (none_there v.classes)
before_there v (instr.Equals a x y) e effect g there = replaced_there v.classes a e effect [] there (none_there v.classes)
before_there v (instr.New a n s) e effect g there = replaced_there v.classes a e effect [] there (none_there v.classes)
before_there v (instr.Store a b) e effect g there =
    both_there v.classes _ _ (either_there v.classes (is_register a e.base && begins_with_star e.path) [] _ (none_there v.classes) (alone_there v.classes (lock.Expr e effect) there))
    (hits_there v.classes (to v.classes v.function a) b effect (base_class v.classes v.function e.base) e.path)
before_there v (instr.Call a b f) e effect g there =
    either_there v.classes _ (class_lock effect (expr_class v.classes v.function e)) (lock.Expr e effect ∷ []) (class_there v.classes effect (expr_class v.classes v.function e)) (alone_there v.classes (lock.Expr e effect) there)
before_there v i e effect g there = alone_there v.classes (lock.Expr e effect) there

pub settle_there : (v : LinkContext) (m : Lock) → LockThere v.classes m → AllThere v.classes (settle v m)
settle_there v (lock.Root effect) there = alone_there v.classes (lock.Root effect) tt
settle_there v (lock.Class x effect) there = alone_there v.classes (lock.Class x effect) tt
settle_there v (lock.Expr e effect) there =
    elim (expr_class v.classes v.function e) as (λ o. AllThere v.classes (settled v e effect o)) [
      | None ↦ none_there v.classes
      | Some x ↦ elim (nat_le (length e.path) v.k_limit) as (λ b. AllThere v.classes (cond b (lock.Expr e effect) (lock.Class x effect) ∷ [])) [
        | true ↦ alone_there v.classes (lock.Expr e effect) there
        | false ↦ alone_there v.classes (lock.Class x effect) tt
      ]
    ]

all_settle_there : (v : LinkContext) (ms : List Lock) → AllThere v.classes ms → AllThere v.classes (flat_map (settle v) ms)
all_settle_there v [] all = none_there v.classes
all_settle_there v (m ∷ ms) all = both_there v.classes (settle v m) (flat_map (settle v) ms) (settle_there v m (all m (inl refl))) (all_settle_there v ms (λ k p. all k (inr p)))

-- a lock that is linked begins on what is there
pub link_there : (v : LinkContext) (i : Instr) (m : Lock) → GlobalsThere v.classes i → LockThere v.classes m → AllThere v.classes (link v i m)
link_there v i (lock.Root effect) g there = alone_there v.classes (lock.Root effect) tt
link_there v i (lock.Class x effect) g there = alone_there v.classes (lock.Class x effect) tt
link_there v i (lock.Expr e effect) g there = all_settle_there v (before v i e effect) (before_there v i e effect g there)

-- ---- one instruction

-- for an instruction that keeps the holding: where all to which a lock is linked is protected before it, the lock is after it
pub link_protects : (v : LinkContext) (k : Cover) (t : ℕ) (objects new : List Object) (regs after : List Value) (i : Instr) → Stands v objects regs → GlobalsThere v.classes i →
    ((e : Expr) (effect : Effect) → BaseThere v.classes e.base → AllProtected k t objects regs (before v i e effect) → Protected k t new after (lock.Expr e effect)) →
    (n : Lock) → LockThere v.classes n → AllProtected k t objects regs (link v i n) → Protected k t new after n
link_protects v k t objects new regs after i stands g row (lock.Root effect) there all = all (lock.Root effect) (inl refl)
link_protects v k t objects new regs after i stands g row (lock.Class class effect) there all = all (lock.Class class effect) (inl refl)
link_protects v k t objects new regs after i stands g row (lock.Expr e effect) there all =
    row e effect there (settled_all v k t objects regs stands (before v i e effect) (before_there v i e effect g there) all)
