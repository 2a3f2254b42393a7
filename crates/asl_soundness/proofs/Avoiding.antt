-- No lock that a thread wants goes through an object that is fresh for another; so the other's stores leave what it denotes.
use Rattle.std.proofs.Common.{◌≡◌, ◌≢◌, ℕ, ◌++◌, List, [], ◌∷◌, Option, Some, None, length, slice_get, refl, ap, sym, ◌∙◌, subst, inl, inr, arith}
use Rattle.std.specs.Prelude.{option_and_then}
use Rattle.std.specs.Option.{option_map_or}
use Rattle.asl_code.specs.declared.image.Image.{Image}
use Rattle.asl_code.specs.declared.value.Value.{Value}
use Rattle.asl_code.specs.declared.value.Value.TheVariants.{Addr}
use Rattle.asl_code.specs.declared.value.Cell.{Cell}
use Rattle.asl_code.specs.declared.value.Effect.TheVariants.{Read, Write}
use Rattle.asl_code.specs.declared.lock.Base.{Base}
use Rattle.asl_code.specs.declared.lock.Base.TheVariants.{Reg, Global}
use Rattle.asl_code.specs.declared.lock.Expr.{Expr}
use Rattle.asl_code.specs.declared.lock.Lock.TheVariants as lock
use Rattle.asl_code.specs.declared.path.Op.{Op}
use Rattle.asl_code.specs.declared.path.Op.TheVariants.{Deref, Off}
use Rattle.asl_points_to.specs.Classes.{Classed}
use Rattle.asl_expression.specs.Expression.{cell_of, pointed, walked, path_cell, base_cell, cell_denoted}
use Rattle.asl_lock_expr.specs.Links.{IsOne, prefixes}
use Rattle.asl_expression.proofs.Paths.{path_append, star_reads, moved_stays}
use Rattle.asl_machine.specs.State.{Activity, State, cell_at, class_of, activity_at}
use Rattle.asl_machine.specs.Cover.{Cover, cover, is_fresh, Allows}
use Rattle.asl_machine.specs.Request.{heap_of}
use Rattle.asl_machine.specs.WellFormed.{SatisfiesInvariant}
use Rattle.asl_machine.specs.Fresh.{IsFreshFor, PointElsewhere, AreApart}
use Rattle.asl_machine.proofs.Heaps.{class_there}
use Rattle.asl_machine.proofs.WellFormedHeaps.{pointed_value}
use Rattle.asl_machine.proofs.Elsewhere.{read_elsewhere}
use Rattle.asl_machine.proofs.ReachedApart.{write_pairs}
use Rattle.asl_soundness.specs.Protected.{CellProtected, Protected, BaseThere}
use Rattle.asl_soundness.proofs.Protecting.{protected_at}

-- the cell is there and of this class; the thread has its address in a register, and may write it
pub record MayWrite (s : State) (u : ℕ) (cell : Cell) : Type 0 where
  pub at : Activity
  pub is : activity_at s.threads u ≡ Some at
  pub register : ℕ
  pub reads : slice_get at.top.regs register ≡ Some (Addr cell.object cell.offset)
  pub old : Value
  pub there : cell_at s.objects cell ≡ Some old
  pub hit : ℕ
  pub class : class_of s.objects cell.object ≡ Some hit
  pub allowed : Allows (cover s.holding at.fresh) u cell hit Write

-- the registers have no address in an object that is shunned
abbrev pub Shun : (ℕ → Type 0) → List Value → Type 0
Shun shunned regs = (o : ℕ) → shunned o → PointElsewhere o regs

-- thread t, which is at a, and thread u
module _ (c : Classed) (image : Image) (s : State) (sound : SatisfiesInvariant image s) (fr : AreApart image s) (globals : image.globals ≡ c.globals) (t u : ℕ) (a : Activity) (apart : t ≢ u) (is_a : activity_at s.threads t ≡ Some a) where
  abbrev k : Cover
  k = cover s.holding a.fresh

  -- a cell that is not the other's
  abbrev IsAway : Cell → Type 0
  IsAway cell = ¬ IsFreshFor s u cell.object

  base_away : (regs : List Value) → Shun (IsFreshFor s u) regs → (base : Base) → BaseThere c base → (cell : Cell) → base_cell regs base ≡ Some cell → IsAway cell
  base_away regs away (Global g) lt cell e f =
      let is : cell_of g 0 ≡ cell = cc in
      let same : g ≡ cell.object = ap (λ (q : Cell). q.object) is in
      let le = (fr.there u cell.object f).0 in
      let many = ap (length {A = ℕ}) globals in
      omega (arith, lt, same, le, many)
  base_away regs away (Reg n) there cell e f =
      elim (slice_get regs n) as (λ o. slice_get regs n ≡ o → option_and_then pointed o ≡ Some cell → ⊥) [
        | None ↦ λ is q. cc
        | Some v ↦ λ is q. (let p = pointed_value v cell q in away cell.object f n p.0 (is ∙ ap (λ x. Some x) p.1))
      ] refl e

  -- no cell that an expression reads with a `*` is the other's
  path_avoids : (regs : List Value) (base : Base) (done ops : List Op) (o : Option Cell) → path_cell (heap_of s.objects) done (base_cell regs base) ≡ o → ((cell : Cell) → o ≡ Some cell → IsAway cell) →
      ((d : Expr) → IsOne (prefixes base done ops) (lock.Expr d Read) → Protected k t s.objects regs (lock.Expr d Read)) →
      (d : Expr) → IsOne (prefixes base done ops) (lock.Expr d Read) → (end : Cell) → cell_denoted (heap_of s.objects) regs d ≡ Some end → IsAway end
  path_avoids regs base done [] o at away all d one end e = absurd one
  path_avoids regs base done (Off places ∷ ops) o at away all d one end e =
      path_avoids regs base (done ++ Off places ∷ []) ops (option_and_then (walked (heap_of s.objects) (Off places)) o)
      (path_append (heap_of s.objects) done (Off places ∷ []) (base_cell regs base) ∙ ap (path_cell (heap_of s.objects) (Off places ∷ [])) at) (step o away) all d one end e
    where
      step : (o : Option Cell) → ((cell : Cell) → o ≡ Some cell → IsAway cell) → (next : Cell) → option_and_then (walked (heap_of s.objects) (Off places)) o ≡ Some next → IsAway next
      step None away next e = cc
      step (Some cell) away next e = subst (λ x. ¬ IsFreshFor s u x) (sym (moved_stays (heap_of s.objects) places cell next e)) (away cell refl)
  path_avoids regs base done (Deref ∷ ops) o at away all d (inl is) end e =
      let same : record { base = base; path = done } ≡ d = cc in
      away end (sym at ∙ ap (λ (x : Expr). cell_denoted (heap_of s.objects) regs x) same ∙ e)
  path_avoids regs base done (Deref ∷ ops) o at away all d (inr one) end e =
      path_avoids regs base (done ++ Deref ∷ []) ops (option_and_then (walked (heap_of s.objects) Deref) o)
      (path_append (heap_of s.objects) done (Deref ∷ []) (base_cell regs base) ∙ ap (path_cell (heap_of s.objects) (Deref ∷ [])) at)
      (step o away (subst (CellProtected k t s.objects Read) at (all (record { base = base; path = done }) (inl refl)))) (λ x p. all x (inr p)) d one end e
    where
      step : (o : Option Cell) → ((cell : Cell) → o ≡ Some cell → IsAway cell) → CellProtected k t s.objects Read o → (next : Cell) → option_and_then (walked (heap_of s.objects) Deref) o ≡ Some next → IsAway next
      step None away p next e = cc
      step (Some cell) away p next e =
          let r = star_reads (heap_of s.objects) cell next e in
          let v = pointed_value r.0 next r.2 in
          let x = class_there s.objects cell r.0 r.1 in
          read_elsewhere image s sound fr t u a apart is_a cell x.0 x.1 (p x.0 x.1) (away cell refl) next.object v.0 (r.1 ∙ ap (λ y. Some y) v.1)

  -- no dereferenced prefix of a protected expression denotes a cell that the other may write
  pub prefix_avoids : (regs : List Value) → Shun (IsFreshFor s u) regs → (e : Expr) → BaseThere c e.base → ((d : Expr) → IsOne (prefixes e.base [] e.path) (lock.Expr d Read) → Protected k t s.objects regs (lock.Expr d Read)) →
      (cell : Cell) → MayWrite s u cell → (d : Expr) → IsOne (prefixes e.base [] e.path) (lock.Expr d Read) → cell_denoted (heap_of s.objects) regs d ≢ Some cell
  prefix_avoids regs away e there all cell w d one is =
      let far = path_avoids regs e.base [] e.path (base_cell regs e.base) refl (base_away regs away e.base there) all d one cell is in
      write_pairs image s sound fr t u a w.at w.register cell w.hit apart is_a w.is w.reads (protected_at k t s.objects Read _ cell is (all d one) w.hit w.class) w.allowed
      (λ f. far (ap (λ (x : Option Activity). is_fresh (option_map_or (λ (b : Activity). b.fresh) x []) cell.object) w.is ∙ f))
