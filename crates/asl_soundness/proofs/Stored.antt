-- The laws of one step for `store`, of a thread's own frame, of a frame above and of another thread, and for `ret`.
use Rattle.std.proofs.Common.{◌≡◌, ◌≢◌, ℕ, ◌<◌, ◌||◌, ◌&&◌, ◌++◌, Bool, true, false, cond, List, [], ◌∷◌, Option, Some, length, set, slice_get, refl, ap, sym, ◌∙◌, subst, inl, inr}
use Rattle.std.specs.Prelude.{option_and_then}
use Rattle.std.proofs.lemmas.Bool.Decides.{eqb_tells}
use Rattle.std.proofs.lemmas.Bool.{and_parts, or_parts}
use Rattle.std.proofs.lemmas.Option.{same_Some}
use Rattle.asl_code.specs.declared.value.Value.{Value}
use Rattle.asl_code.specs.declared.value.Value.TheVariants.{Addr}
use Rattle.asl_code.specs.declared.value.Cell.{Cell}
use Rattle.asl_code.specs.declared.value.Effect.{Effect}
use Rattle.asl_code.specs.declared.value.Effect.TheVariants.{Read}
use Rattle.asl_code.specs.declared.lock.Base.{Base}
use Rattle.asl_code.specs.declared.lock.Base.TheVariants.{Reg, Global}
use Rattle.asl_code.specs.declared.lock.Expr.{Expr}
use Rattle.asl_code.specs.declared.lock.Lock.{Lock}
use Rattle.asl_code.specs.declared.lock.Lock.TheVariants as lock
use Rattle.asl_points_to.specs.Classes.{to}
use Rattle.asl_expression.specs.Expression.{pointed, path_cell, base_cell, cell_denoted}
use Rattle.asl_lock_expr.specs.ClassOf.{class_of as expr_class, base_class}
use Rattle.asl_lock_expr.specs.Links.{LinkContext, IsOne, on, class_lock, is_register, begins_with_star, hits, goes_through, prefixes}
use Rattle.asl_lock_expr.specs.Agrees.{IsWrite}
use Rattle.asl_lock_expr.proofs.Ones.{one_right}
use Rattle.asl_expression.proofs.Paths.{start_there}
use Rattle.asl_lock_expr.proofs.Walks.{last_hit, not_through}
use Rattle.asl_lock_expr.proofs.Leaves.{not_crossed}
use Rattle.asl_machine.specs.State.{Object, cell_at, class_of, written}
use Rattle.asl_machine.specs.Request.{heap_of}
use Rattle.asl_machine.specs.Cover.{Cover}
use Rattle.asl_machine.proofs.Heaps.{written_same, written_other, class_of-written, size_of-written}
use Rattle.asl_soundness.specs.Agrees.{CellsAgree}
use Rattle.asl_soundness.specs.Protected.{CellProtected, Protected, BaseThere}
use Rattle.asl_soundness.proofs.Protecting.{Stands, AllProtected, base_agrees, denoted_class, protect, protected_at, class_protects}
use Rattle.asl_soundness.proofs.Rows.{base_set}

-- a store to a cell that is there writes that cell
pub written_is_write : (objects : List Object) (c0 : Cell) (value old : Value) → cell_at objects c0 ≡ Some old → IsWrite (heap_of objects) (heap_of (written objects c0 value)) c0 value
written_is_write objects c0 value old e = record {
  sizes = size_of-written objects c0 value;
  there = written_same objects c0 value old e;
  others = written_other objects c0 value;
}

on_base : (a : ℕ) (base : Base) → is_register a base ≡ true → base ≡ Reg a
on_base a (Reg r) e = elim (eqb_tells r a) [ inl same ↦ ap (λ n. Reg n) same.1 | inr other ↦ (let f = other.0 in cc) ]
on_base a (Global g) e = cc

-- what an expression becomes before a `store`
abbrev pub before_store : LinkContext → ℕ → ℕ → Expr → Effect → List Lock
before_store v a b e effect =
    cond (is_register a e.base && begins_with_star e.path) [] (lock.Expr e effect ∷ [])
    ++ hits v.classes (to v.classes v.function a) b effect (base_class v.classes v.function e.base) e.path

module _ (k : Cover) (t : ℕ) (objects : List Object) (c0 : Cell) (value old : Value) (is_there : cell_at objects c0 ≡ Some old) where
  abbrev pub new : List Object
  new = written objects c0 value

  write : IsWrite (heap_of objects) (heap_of new) c0 value
  write = written_is_write objects c0 value old is_there

  -- a store changes no class
  same : (n : ℕ) → class_of new n ≡ class_of objects n
  same = class_of-written objects c0 value

  -- what is protected before is protected after
  recast : (effect : Effect) (cell : Cell) → CellProtected k t objects effect (Some cell) → CellProtected k t new effect (Some cell)
  recast effect cell p x e = p x (sym (same cell.object) ∙ e)

  module _ (v : LinkContext) (regs : List Value) (stands : Stands v objects regs) (agrees : CellsAgree v.classes new) (e : Expr) (effect : Effect) (there : BaseThere v.classes e.base) where
    -- a thread's own store
    pub store_row : (a b : ℕ) → slice_get regs a ≡ Some (Addr c0.object c0.offset) → slice_get regs b ≡ Some value → AllProtected k t objects regs (before_store v a b e effect) → Protected k t new regs (lock.Expr e effect)
    store_row a b reads_a reads_b all =
        protect k t new effect (path_cell (heap_of new) e.path (base_cell regs e.base)) (λ end d.
        let s = start_there (heap_of new) e.path (base_cell regs e.base) end d in
        let x = base_agrees v objects regs stands e.base s.0 there s.1 in
        let hit = stands.frame a (Addr c0.object c0.offset) reads_a in
        let way = last_hit v.classes (class_of new) (heap_of objects) (heap_of new) c0 value write agrees b hit.0 effect (same c0.object ∙ hit.2) e.path s.0 end x.0 (same s.0.object ∙ x.2)
        (ap (path_cell (heap_of new) e.path) (sym s.1) ∙ d) in
        elim way [
          | inl p ↦
              let stays : (is_register a e.base && begins_with_star e.path) ≢ true = λ both.
              (let q = and_parts (is_register a e.base) (begins_with_star e.path) both in
              let at : base_cell regs e.base ≡ Some c0 = ap (base_cell regs) (on_base a e.base q.0) ∙ ap (option_and_then pointed) reads_a in
              p.1 q.1 (same_Some s.0 c0 (sym s.1 ∙ at))) in
              elim (is_register a e.base && begins_with_star e.path) as (λ (y : Bool). y ≢ true → AllProtected k t objects regs (cond y [] (lock.Expr e effect ∷ []) ++ hits v.classes (to v.classes v.function a) b effect (base_class v.classes v.function e.base) e.path) → CellProtected k t new effect (Some end)) [
                | true ↦ λ no q. absurd (no refl)
                | false ↦ λ no q. recast effect end
                    (protected_at k t objects effect (path_cell (heap_of objects) e.path (base_cell regs e.base)) end (ap (path_cell (heap_of objects) e.path) s.1 ∙ p.0) (q (lock.Expr e effect) (inl refl)))
              ] stays all
          | inr q ↦
              let offered : IsOne (hits v.classes (to v.classes v.function a) b effect (base_class v.classes v.function e.base) e.path) (on (Reg b) q.0 effect) =
              subst (λ o. IsOne (hits v.classes o b effect (base_class v.classes v.function e.base) e.path) (on (Reg b) q.0 effect)) (sym hit.1)
              (subst (λ o. IsOne (hits v.classes (Some hit.0) b effect o e.path) (on (Reg b) q.0 effect)) (sym x.1) q.1) in
              let p : CellProtected k t objects effect (path_cell (heap_of objects) q.0 (option_and_then pointed (slice_get regs b))) =
              all (on (Reg b) q.0 effect) (one_right (cond (is_register a e.base && begins_with_star e.path) [] (lock.Expr e effect ∷ [])) _ (on (Reg b) q.0 effect) offered) in
              recast effect end (protected_at k t objects effect _ end (ap (λ o. path_cell (heap_of objects) q.0 (option_and_then pointed o)) reads_b ∙ q.2) p)
        ])

    -- a store of a frame above, to a class through which the expression does not go
    pub store_below : (stores : ℕ → Bool) (hit : ℕ) → class_of objects c0.object ≡ Some hit → stores hit ≡ true → goes_through v.classes stores (base_class v.classes v.function e.base) e.path ≡ false →
        Protected k t objects regs (lock.Expr e effect) → Protected k t new regs (lock.Expr e effect)
    store_below stores hit of writes past p =
        protect k t new effect (path_cell (heap_of new) e.path (base_cell regs e.base)) (λ end d.
        let s = start_there (heap_of new) e.path (base_cell regs e.base) end d in
        let x = base_agrees v objects regs stands e.base s.0 there s.1 in
        let unmoved = not_through v.classes (class_of new) (heap_of objects) (heap_of new) c0 value write agrees stores hit (same c0.object ∙ of) writes e.path s.0 x.0 (same s.0.object ∙ x.2)
        (ap (λ o. goes_through v.classes stores o e.path) (sym x.1) ∙ past) in
        recast effect end (protected_at k t objects effect _ end (ap (path_cell (heap_of objects) e.path) s.1 ∙ sym unmoved ∙ ap (path_cell (heap_of new) e.path) (sym s.1) ∙ d) p))

  -- another's store to a cell that no dereferenced prefix denotes
  pub store_elsewhere : (regs : List Value) (e : Expr) (effect : Effect) → ((d : Expr) → IsOne (prefixes e.base [] e.path) (lock.Expr d Read) → cell_denoted (heap_of objects) regs d ≢ Some c0) →
      Protected k t objects regs (lock.Expr e effect) → Protected k t new regs (lock.Expr e effect)
  store_elsewhere regs e effect apart p =
      let unmoved : path_cell (heap_of new) e.path (base_cell regs e.base) ≡ path_cell (heap_of objects) e.path (base_cell regs e.base) =
      not_crossed (heap_of objects) (heap_of new) c0 value write regs e.base [] e.path (base_cell regs e.base) refl apart in
      protect k t new effect (path_cell (heap_of new) e.path (base_cell regs e.base)) (λ end d. recast effect end (protected_at k t objects effect _ end (sym unmoved ∙ d) p))

-- `ret`: what stayed over the call, in the caller's frame with its result
pub return_row : (v : LinkContext) (k : Cover) (t : ℕ) (objects : List Object) (regs : List Value) (a : ℕ) (value : Value) (stores : ℕ → Bool) → Stands v objects (set regs a value) → a < length regs →
    (e : Expr) (effect : Effect) → BaseThere v.classes e.base →
    AllProtected k t objects regs (cond (is_register a e.base || goes_through v.classes stores (base_class v.classes v.function e.base) e.path) (class_lock effect (expr_class v.classes v.function e)) (lock.Expr e effect ∷ [])) →
    Protected k t objects (set regs a value) (lock.Expr e effect)
return_row v k t objects regs a value stores stands lt e effect there all =
    let through = goes_through v.classes stores (base_class v.classes v.function e.base) e.path in
    elim (is_register a e.base || through) as (λ (y : Bool). (is_register a e.base || through) ≡ y → AllProtected k t objects regs (cond y (class_lock effect (expr_class v.classes v.function e)) (lock.Expr e effect ∷ [])) → Protected k t objects (set regs a value) (lock.Expr e effect)) [
      | true ↦ λ is p.
          protect k t objects effect (cell_denoted (heap_of objects) (set regs a value) e) (λ end d.
          let y = denoted_class v objects (set regs a value) stands e end there d in
          let m = subst (λ o. AllProtected k t objects regs (class_lock effect o)) y.1 p in
          class_protects k t objects effect end y.0 y.2 (m (lock.Class y.0 effect) (inl refl)))
      | false ↦ λ is p.
          let here : base_cell (set regs a value) e.base ≡ base_cell regs e.base = base_set regs a value e.base lt ∙ ap (λ b. cond {A = Option Cell} b (pointed value) (base_cell regs e.base)) (or_parts (is_register a e.base) through is).0 in
          subst (λ o. CellProtected k t objects effect (path_cell (heap_of objects) e.path o)) (sym here) (p (lock.Expr e effect) (inl refl))
    ] refl all
