-- The laws of one step that sets a register over the same objects, line by line.
use Rattle.std.proofs.Common.{◌≡◌, ℕ, ◌+◌, ◌<◌, true, false, cond, List, [], ◌∷◌, Option, Some, None, length, set, slice_get, refl, ap, sym, ◌∙◌, subst, inl, inr, arith, rules}
use Rattle.std.specs.Prelude.{option_and_then, nat_lt}
use Rattle.std.proofs.lemmas.Bool.Decides.{eqb_tells}
use Rattle.asl_code.specs.declared.value.Value.{Value}
use Rattle.asl_code.specs.declared.value.Value.TheVariants.{Addr}
use Rattle.asl_code.specs.declared.value.Cell.{Cell}
use Rattle.asl_code.specs.declared.value.Effect.{Effect}
use Rattle.asl_code.specs.declared.lock.Base.{Base}
use Rattle.asl_code.specs.declared.lock.Base.TheVariants.{Reg, Global}
use Rattle.asl_code.specs.declared.lock.Expr.{Expr}
use Rattle.asl_code.specs.declared.lock.Lock.{Lock}
use Rattle.asl_code.specs.declared.lock.Lock.TheVariants as lock
use Rattle.asl_code.specs.declared.path.Op.TheVariants.{Deref, Off}
use Rattle.asl_expression.specs.Expression.{cell_of, pointed, moved, path_cell, base_cell}
use Rattle.asl_lock_expr.specs.Links.{on, is_register, replaced}
use Rattle.asl_expression.proofs.Paths.{no_cell_from_none}
use Rattle.asl_machine.specs.State.{Object, cell_at, size_of}
use Rattle.asl_machine.specs.Request.{heap_of}
use Rattle.asl_machine.specs.Cover.{Cover}
use Rattle.asl_machine.proofs.Lists.{get_same, get_other}
use Rattle.asl_soundness.specs.Protected.{CellProtected, Protected}
use Rattle.asl_soundness.proofs.Protecting.{AllProtected}

pub base_set : (regs : List Value) (a : ℕ) (v : Value) (base : Base) → a < length regs → base_cell (set regs a v) base ≡ cond (is_register a base) (pointed v) (base_cell regs base)
base_set regs a v (Global g) lt = refl
base_set regs a v (Reg r) lt =
    elim (eqb_tells r a) [
      | inl same ↦
          ap (λ o. option_and_then pointed o) (ap (slice_get (set regs a v)) same.1 ∙ get_same regs a v lt)
          ∙ ap (λ b. cond b (pointed v) (option_and_then pointed (slice_get regs r))) (sym same.0)
      | inr other ↦
          ap (λ o. option_and_then pointed o) (get_other regs a r v other.1)
          ∙ ap (λ b. cond b (pointed v) (option_and_then pointed (slice_get regs r))) (sym other.0)
    ]

module _ (k : Cover) (t : ℕ) (objects : List Object) (regs : List Value) (a : ℕ) (lt : a < length regs) (e : Expr) (effect : Effect) where
  -- where the expression begins on the register, it is what it says that it becomes; every other stays
  pub set_row : (v : Value) (locks : List Lock) → AllProtected k t objects regs (replaced a e effect locks) →
      (AllProtected k t objects regs locks → CellProtected k t objects effect (path_cell (heap_of objects) e.path (pointed v))) →
      Protected k t objects (set regs a v) (lock.Expr e effect)
  set_row v locks all based =
      subst (λ o. CellProtected k t objects effect (path_cell (heap_of objects) e.path o)) (sym (base_set regs a v e.base lt))
      (elim (is_register a e.base) as (λ b. AllProtected k t objects regs (cond b locks (lock.Expr e effect ∷ [])) → CellProtected k t objects effect (path_cell (heap_of objects) e.path (cond b (pointed v) (base_cell regs e.base)))) [
        | true ↦ λ p. based p
        | false ↦ λ p. p (lock.Expr e effect) (inl refl)
      ] all)

  -- `int`, `null`, `add` and the like: what is set is not an address
  pub number_row : (v : Value) → pointed v ≡ None → AllProtected k t objects regs (replaced a e effect []) → Protected k t objects (set regs a v) (lock.Expr e effect)
  number_row v none all =
      set_row v [] all (λ p. subst (CellProtected k t objects effect) (sym (ap (path_cell (heap_of objects) e.path) none ∙ no_cell_from_none (heap_of objects) e.path)) tt)

  -- `mov`
  pub move_row : (b : ℕ) (v : Value) → slice_get regs b ≡ Some v → AllProtected k t objects regs (replaced a e effect (on (Reg b) e.path effect ∷ [])) → Protected k t objects (set regs a v) (lock.Expr e effect)
  move_row b v reads all =
      set_row v (on (Reg b) e.path effect ∷ []) all
      (λ p. subst (λ o. CellProtected k t objects effect (path_cell (heap_of objects) e.path (option_and_then pointed o))) reads (p (on (Reg b) e.path effect) (inl refl)))

  -- `glob`
  pub global_row : (g : ℕ) → AllProtected k t objects regs (replaced a e effect (on (Global g) e.path effect ∷ [])) → Protected k t objects (set regs a (Addr g 0)) (lock.Expr e effect)
  global_row g all = set_row (Addr g 0) (on (Global g) e.path effect ∷ []) all (λ p. p (on (Global g) e.path effect) (inl refl))

  -- `load`
  pub load_row : (b : ℕ) (cell : Cell) (v : Value) → slice_get regs b ≡ Some (Addr cell.object cell.offset) → cell_at objects cell ≡ Some v →
      AllProtected k t objects regs (replaced a e effect (on (Reg b) (Deref ∷ e.path) effect ∷ [])) → Protected k t objects (set regs a v) (lock.Expr e effect)
  load_row b cell v reads holds all =
      set_row v (on (Reg b) (Deref ∷ e.path) effect ∷ []) all
      (λ p. subst (λ o. CellProtected k t objects effect (path_cell (heap_of objects) e.path (option_and_then pointed o))) holds
      (subst (λ o. CellProtected k t objects effect (path_cell (heap_of objects) (Deref ∷ e.path) (option_and_then pointed o))) reads (p (on (Reg b) (Deref ∷ e.path) effect) (inl refl))))

  -- `field`
  pub field_row : (b d : ℕ) (cell : Cell) (size : ℕ) → slice_get regs b ≡ Some (Addr cell.object cell.offset) → size_of objects cell.object ≡ Some size → cell.offset + d < size →
      AllProtected k t objects regs (replaced a e effect (on (Reg b) (Off d ∷ e.path) effect ∷ [])) → Protected k t objects (set regs a (Addr cell.object (cell.offset + d))) (lock.Expr e effect)
  field_row b d cell size reads sized within all =
      let below : nat_lt (cell.offset + d) size ≡ true = search (rules, arith) in
      let moves : moved (heap_of objects) d cell ≡ Some (cell_of cell.object (cell.offset + d)) =
      ap (λ o. option_and_then (λ n. cond (nat_lt (cell.offset + d) n) (Some (cell_of cell.object (cell.offset + d))) None) o) sized
      ∙ ap (λ x. cond {A = Option Cell} x (Some (cell_of cell.object (cell.offset + d))) None) below in
      set_row (Addr cell.object (cell.offset + d)) (on (Reg b) (Off d ∷ e.path) effect ∷ []) all
      (λ p. subst (λ o. CellProtected k t objects effect (path_cell (heap_of objects) e.path o)) moves
      (subst (λ o. CellProtected k t objects effect (path_cell (heap_of objects) (Off d ∷ e.path) (option_and_then pointed o))) reads (p (on (Reg b) (Off d ∷ e.path) effect) (inl refl))))
