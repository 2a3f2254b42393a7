-- What is protected: cells by locks on them, on their class or on the root, and locks by what they settle to.
use Rattle.std.proofs.Common.{◌≡◌, ℕ, ◌<◌, ◌≤◌, ◌||◌, Bool, true, false, cond, List, [], ◌∷◌, Option, Some, None, length, slice_get, refl, ap, sym, ◌∙◌, subst, inl, inr, arith}
use Rattle.std.specs.Prelude.{option_and_then, IsTrue, IsSome, nat_le}
use Rattle.std.specs.List.{flat_map}
use Rattle.std.proofs.lemmas.Bool.{or_right}
use Rattle.std.proofs.lemmas.Option.{slice_get_cases, same_Some}
use Rattle.asl_code.specs.declared.value.Value.{Value}
use Rattle.asl_code.specs.declared.value.Cell.{Cell}
use Rattle.asl_code.specs.declared.value.Effect.{Effect}
use Rattle.asl_code.specs.declared.lock.Base.{Base}
use Rattle.asl_code.specs.declared.lock.Base.TheVariants.{Reg, Global}
use Rattle.asl_code.specs.declared.lock.Expr.{Expr}
use Rattle.asl_code.specs.declared.lock.Lock.{Lock}
use Rattle.asl_code.specs.declared.lock.Lock.TheVariants as lock
use Rattle.asl_mode_lanes.specs.Mode.{is_at_most}
use Rattle.asl_lock_forest.specs.declared.node.Node.TheVariants.{Root, Class, Leaf}
use Rattle.asl_lock_forest.specs.Holding.{held, covering_mode}
use Rattle.asl_points_to.specs.Classes.{Classed, to}
use Rattle.asl_expression.specs.Expression.{cell_of, pointed, path_cell, base_cell, cell_denoted}
use Rattle.asl_lock_expr.specs.ClassOf.{class_of as expr_class, base_class, path_class}
use Rattle.asl_lock_expr.specs.Links.{LinkContext, IsOne, settled, settle}
use Rattle.asl_lock_expr.proofs.Ones.{one_left, one_right}
use Rattle.asl_expression.proofs.Paths.{start_there}
use Rattle.asl_lock_expr.proofs.Walks.{class_along, value_class}
use Rattle.asl_machine.specs.State.{Object, class_of}
use Rattle.asl_machine.specs.Request.{heap_of}
use Rattle.asl_machine.specs.Cover.{is_fresh, Cover, Allows}
use Rattle.asl_soundness.specs.Agrees.{FrameAgrees, CellsAgree}
use Rattle.asl_soundness.specs.Protected.{is_class_covered, CellProtected, Protected, BaseThere, LockThere}

-- what stands below the length
pub get_within : {X : Type 0} (xs : List X) (i : ℕ) → i < length xs → (x : X) × (slice_get xs i ≡ Some x)
get_within xs i lt =
    elim (slice_get_cases xs i).1 [
      | inl found ↦ (found.0, found.2)
      | inr past ↦ let le : length xs ≤ i = past.0 in absurd (omega (arith, lt))
    ]

-- what is there is something
pub get_some : (o : Option Value) → IsSome o → (v : Value) × (o ≡ Some v)
get_some None e = let f : false ≡ true = e in cc
get_some (Some v) e = (v, refl)

-- the globals' objects have the globals' classes
abbrev pub GlobalsAgree : Classed → List Object → Type 0
GlobalsAgree c objects = (g x : ℕ) → slice_get c.globals g ≡ Some x → class_of objects g ≡ Some x

-- what a lock is read against: objects that agree with the classes, and a frame of the function that does
pub record Stands (v : LinkContext) (objects : List Object) (regs : List Value) : Type 0 where
  pub cells : CellsAgree v.classes objects
  pub frame : FrameAgrees v.classes objects v.function regs
  pub globals : GlobalsAgree v.classes objects

-- the cell at a base is of the class of the base
pub base_agrees : (v : LinkContext) (objects : List Object) (regs : List Value) → Stands v objects regs → (base : Base) (cell : Cell) → BaseThere v.classes base →
    base_cell regs base ≡ Some cell → (x : ℕ) × (base_class v.classes v.function base ≡ Some x) × (class_of objects cell.object ≡ Some x)
base_agrees v objects regs on (Reg r) cell there e =
    elim (slice_get regs r) as (λ o. slice_get regs r ≡ o → option_and_then pointed o ≡ Some cell → (x : ℕ) × (to v.classes v.function r ≡ Some x) × (class_of objects cell.object ≡ Some x)) [
      | None ↦ λ is g. cc
      | Some w ↦ λ is g. value_class (class_of objects) (to v.classes v.function r) w cell (on.frame r w is) g
    ] refl e
base_agrees v objects regs on (Global g) cell there e =
    let x = get_within v.classes.globals g there in
    let is : cell_of g 0 ≡ cell = cc in
    (x.0, x.1, ap (λ (k : Cell). class_of objects k.object) (sym is) ∙ on.globals g x.0 x.1)

-- an expression denotes a cell of its class
pub denoted_class : (v : LinkContext) (objects : List Object) (regs : List Value) → Stands v objects regs → (e : Expr) (end : Cell) → BaseThere v.classes e.base →
    cell_denoted (heap_of objects) regs e ≡ Some end → (y : ℕ) × (expr_class v.classes v.function e ≡ Some y) × (class_of objects end.object ≡ Some y)
denoted_class v objects regs on e end there d =
    let s = start_there (heap_of objects) e.path (base_cell regs e.base) end d in
    let b = base_agrees v objects regs on e.base s.0 there s.1 in
    let r = class_along v.classes (class_of objects) (heap_of objects) on.cells e.path s.0 end b.0 b.2 (ap (path_cell (heap_of objects) e.path) (sym s.1) ∙ d) in
    (r.0, ap (path_class v.classes e.path) b.1 ∙ r.1, r.2)

-- a cell that is protected if it is there
pub protect : (k : Cover) (t : ℕ) (objects : List Object) (effect : Effect) (o : Option Cell) → ((cell : Cell) → o ≡ Some cell → CellProtected k t objects effect (Some cell)) → CellProtected k t objects effect o
protect k t objects effect None all = tt
protect k t objects effect (Some cell) all = all cell refl

-- what is protected, where it is known which cell it is
pub protected_at : (k : Cover) (t : ℕ) (objects : List Object) (effect : Effect) (o : Option Cell) (cell : Cell) → o ≡ Some cell → CellProtected k t objects effect o → CellProtected k t objects effect (Some cell)
protected_at k t objects effect o cell is p = subst (CellProtected k t objects effect) is p

either_last : (a b c : Bool) → (b || c) ≡ true → ((a || b) || c) ≡ true
either_last true b c e = refl
either_last false b c e = e

-- a class lock that is protected covers the cells of the class
pub class_protects : (k : Cover) (t : ℕ) (objects : List Object) (effect : Effect) (cell : Cell) (y : ℕ) → class_of objects cell.object ≡ Some y → IsTrue (is_class_covered k.holding t y effect) → CellProtected k t objects effect (Some cell)
class_protects k t objects effect cell y of covered x e =
    let covers : Allows k t cell y effect =
    or_right (is_fresh k.fresh cell.object) _ (either_last (is_at_most (covering_mode effect) (held k.holding t (Leaf cell y))) (is_at_most (covering_mode effect) (held k.holding t (Class y))) (is_at_most (covering_mode effect) (held k.holding t Root)) covered) in
    subst (λ z. Allows k t cell z effect) (same_Some y x (sym of ∙ e)) covers

-- each lock of a list is protected
abbrev pub AllProtected : Cover → ℕ → List Object → List Value → List Lock → Type 0
AllProtected k t objects regs locks = (m : Lock) → IsOne locks m → Protected k t objects regs m

-- where what a lock settles to is protected, the lock is
pub settle_protects : (v : LinkContext) (k : Cover) (t : ℕ) (objects : List Object) (regs : List Value) → Stands v objects regs → (n : Lock) → LockThere v.classes n →
    AllProtected k t objects regs (settle v n) → Protected k t objects regs n
settle_protects v k t objects regs on (lock.Root effect) there all = all (lock.Root effect) (inl refl)
settle_protects v k t objects regs on (lock.Class class effect) there all = all (lock.Class class effect) (inl refl)
settle_protects v k t objects regs on (lock.Expr e effect) there all =
    protect k t objects effect _ (λ cell d.
    let y = denoted_class v objects regs on e cell there d in
    let now : AllProtected k t objects regs (settled v e effect (Some y.0)) = subst (λ o. AllProtected k t objects regs (settled v e effect o)) y.1 all in
    elim (nat_le (length e.path) v.k_limit) as (λ b. AllProtected k t objects regs (cond b (lock.Expr e effect) (lock.Class y.0 effect) ∷ []) → CellProtected k t objects effect (Some cell)) [
      | true ↦ λ p. protected_at k t objects effect _ cell d (p (lock.Expr e effect) (inl refl))
      | false ↦ λ p. class_protects k t objects effect cell y.0 y.2 (p (lock.Class y.0 effect) (inl refl))
    ] now)

-- each lock of the list begins on what is there
abbrev pub AllThere : Classed → List Lock → Type 0
AllThere c locks = (m : Lock) → IsOne locks m → LockThere c m

-- where what a list of locks settles to is protected, each of the list is
pub settled_all : (v : LinkContext) (k : Cover) (t : ℕ) (objects : List Object) (regs : List Value) → Stands v objects regs → (ms : List Lock) → AllThere v.classes ms →
    AllProtected k t objects regs (flat_map (settle v) ms) → AllProtected k t objects regs ms
settled_all v k t objects regs on [] there all m o = absurd o
settled_all v k t objects regs on (n ∷ ms) there all m (inl is) =
    subst (Protected k t objects regs) is (settle_protects v k t objects regs on n (there n (inl refl)) (λ q o. all q (one_left _ _ q o)))
settled_all v k t objects regs on (n ∷ ms) there all m (inr o) =
    settled_all v k t objects regs on ms (λ q p. there q (inr p)) (λ q p. all q (one_right (settle v n) (flat_map (settle v) ms) q p)) m o
