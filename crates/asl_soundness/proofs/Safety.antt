-- An access of a thread that has what it wants is allowed; so no line of such a thread is a fault for a missing lock.
use Rattle.std.proofs.Common.{◌≡◌, ℕ, suc, ◌&&◌, ◌||◌, Bool, true, false, cond, List, [], ◌∷◌, Some, IsTrue, slice_get, refl, ap, ap₂, sym, ◌∙◌, subst, inl, arith, rules}
use Rattle.std.specs.Prelude.{option_and_then, nat_lt, nat_le}
use Rattle.std.specs.Option.{option_map_or}
use Rattle.asl_code.specs.declared.image.Image.{Image}
use Rattle.asl_code.specs.declared.value.Value.TheVariants.{Addr}
use Rattle.asl_code.specs.declared.value.Cell.{Cell}
use Rattle.asl_code.specs.declared.value.Effect.{Effect}
use Rattle.asl_code.specs.declared.value.Effect.TheVariants.{Read, Write}
use Rattle.asl_code.specs.declared.lock.Base.TheVariants.{Reg}
use Rattle.asl_code.specs.declared.lock.Lock.TheVariants as lock
use Rattle.asl_code.specs.declared.instr.Instr.{Instr}
use Rattle.asl_code.specs.declared.instr.Instr.TheVariants as instr
use Rattle.asl_lower.specs.Lowered.{Lowered}
use Rattle.asl_lower.specs.OpenSections.{open_at, open_behind, is_access, is_acquire, FlowsTo}
use Rattle.asl_points_to.specs.Classes.{Classed}
use Rattle.asl_expression.specs.Expression.{pointed}
use Rattle.asl_lock_expr.specs.Links.{IsOne, on, settle, settled, accesses}
use Rattle.asl_backward_flow.specs.Closed.{Family}
use Rattle.asl_machine.specs.declared.fault.Fault.TheVariants as fault
use Rattle.asl_machine.specs.declared.reply.Reply.{Reply}
use Rattle.asl_machine.specs.declared.reply.Reply.TheVariants as reply
use Rattle.asl_machine.specs.State.{Activity, State}
use Rattle.asl_machine.specs.Cover.{cover, allows, Allows}
use Rattle.asl_machine.specs.Step.{Line, placed_at, is_allowed}
use Rattle.asl_machine.proofs.ValueLines.{at_of}
use Rattle.asl_soundness.specs.Coded.{classed}
use Rattle.asl_soundness.specs.Safe.{IsSafe}
use Rattle.asl_soundness.specs.Nested.{is_some_open, is_inside}
use Rattle.asl_soundness.specs.Protected.{CellProtected}
use Rattle.asl_soundness.proofs.Nesting.{some_inside}
use Rattle.asl_soundness.proofs.Regions.{region_there, region_goes}
use Rattle.asl_soundness.proofs.StructureLaws.{access_in_section}
use Rattle.asl_soundness.proofs.Structure.{line_entered}
use Rattle.asl_soundness.proofs.Sections.{Ready, own_view, stands, layout, body, nested, stays_closed}

module _ (l : Lowered) (c : Classed) (stores : ℕ → ℕ → Bool) (k_limit : ℕ) (K : Family) (image : Image) (s : State) (t : ℕ) (a : Activity) (q : Ready l c stores k_limit K image s t a) where
  -- an access is allowed through a register whose lock it needs
  access_allowed : (i : Instr) (x : ℕ) (effect : Effect) (cell : Cell) → slice_get l.code a.top.pc ≡ Some i → IsTrue (is_access i) → FlowsTo i a.top.pc (suc a.top.pc) → is_acquire i ≡ false → ((xs : List ℕ) → open_behind (Some i) xs ≡ xs) →
      accesses (own_view l c stores k_limit K image s t a q) i ≡ settle (own_view l c stores k_limit K image s t a q) (on (Reg x) [] effect) → slice_get a.top.regs x ≡ Some (Addr cell.object cell.offset) → is_allowed (at_of image s t a) effect cell ≡ true
  access_allowed i x effect cell at access goes plain keeps needs reads =
      let v = own_view l c stores k_limit K image s t a q in
      let need = on (Reg x) [] effect in
      let deep = access_in_section l c image s t a i q.program.kept q.program.made q.structured q.here.is at access in
      let same : open_at l.code (suc a.top.pc) ≡ open_at l.code a.top.pc = (layout l c stores k_limit K image s t a q).nested.steps a.top.pc (suc a.top.pc) i at goes ∙ keeps (open_at l.code a.top.pc) in
      let inside : is_inside l (placed_at (suc a.top.pc) a.top ∷ a.below) ≡ true = ap (λ xs. is_some_open xs || is_inside l a.below) same ∙ some_inside l a (nested l c stores k_limit K image s t a q) deep in
      let r = region_there l (placed_at (suc a.top.pc) a.top) a.below inside in
      let was = region_goes l (layout l c stores k_limit K image s t a q) a.top a.below (body l c stores k_limit K image s t a q) (nested l c stores k_limit K image s t a q).kinds.0 (placed_at (suc a.top.pc) a.top) i at goes refl
      (stays_closed l c stores k_limit K image s t a q i (suc a.top.pc) at goes plain) r.0 r.1 in
      let target = (stands l c stores k_limit K image s t a q).frame x (Addr cell.object cell.offset) reads in
      let short : nat_le 0 k_limit ≡ true = search (rules, arith) in
      let one : IsOne (settle v need) need =
      subst (λ o. IsOne (settled v (record { base = Reg x; path = [] }) effect o) need) (sym target.1) (subst (λ (b : Bool). IsOne (cond b need (lock.Class target.0 effect) ∷ []) need) (sym short) (inl refl)) in
      let p = q.has.top r.0 was.0 need (q.program.closed.accessed r.0 a.top.function a.top.pc i need was.1 at (subst (λ ms. IsOne ms need) (sym needs) one)) in
      let allowed : Allows (cover s.holding a.fresh) t cell target.0 effect = subst (λ o. CellProtected (cover s.holding a.fresh) t s.objects effect (option_and_then pointed o)) reads p target.0 target.2 in
      let test : nat_lt 0 a.depth ≡ true = search (rules, arith, deep) in
      ap₂ (λ y z. y && z) test (ap (λ o. option_map_or (λ class. allows (cover s.holding a.fresh) t cell class effect) o false) target.2 ∙ allowed)

  no_want : (i : Instr) (cell : Cell) (effect : Effect) (new : State) → slice_get l.code a.top.pc ≡ Some i → Line (at_of image s t a) (classed c i) (reply.Fault (fault.Unprotected cell effect)) new → ⊥
  no_want (instr.Load x y) cell effect new at e =
      let allowed = access_allowed (instr.Load x y) y Read cell at refl refl refl (λ xs. refl) refl e.reads_address in
      (let forbidden = e.forbidden in cc)
  no_want (instr.Store x y) cell effect new at e =
      let allowed = access_allowed (instr.Store x y) x Write cell at refl refl refl (λ xs. refl) refl e.reads_address in
      (let forbidden = e.forbidden in cc)
  no_want i cell effect new at e = absurd e

  -- the reply of a line is safe
  pub line_safe : (i : Instr) (r : Reply) (new : State) → slice_get l.code a.top.pc ≡ Some i → Line (at_of image s t a) (classed c i) r new → IsSafe r
  line_safe i (reply.Fault (fault.Unprotected cell effect)) new at e = no_want i cell effect new at e
  line_safe i (reply.Fault fault.NoSection) new at e =
      (line_entered l c image q.program.made (layout l c stores k_limit K image s t a q) (at_of image s t a) i (reply.Fault fault.NoSection) new (nested l c stores k_limit K image s t a q) at e).0 refl
  line_safe i (reply.Fault fault.Open) new at e =
      (line_entered l c image q.program.made (layout l c stores k_limit K image s t a q) (at_of image s t a) i (reply.Fault fault.Open) new (nested l c stores k_limit K image s t a q) at e).1 refl
  line_safe i r new at e = tt
