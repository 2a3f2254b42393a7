-- Every line of the table keeps what its own thread wants.
use Rattle.std.proofs.Common.{◌≡◌, ℕ, ◌+◌, ◌<◌, ◌≤◌, ◌++◌, Bool, false, List, [], ◌∷◌, Some, None, length, set, slice_get, refl, ap, sym, ◌∙◌, subst, inl, inr, arith}
use Rattle.std.specs.Prelude.{option_and_then, unwrap_or}
use Rattle.std.proofs.lemmas.Bool.Decides.{eqb_tells}
use Rattle.std.proofs.lemmas.Option.{same_Some}
use Rattle.asl_code.specs.declared.image.Image.{Image}
use Rattle.asl_code.specs.declared.image.Function.{Function}
use Rattle.asl_code.specs.declared.value.Value.{Value}
use Rattle.asl_code.specs.declared.value.Value.TheVariants.{Int, Null, Addr}
use Rattle.asl_code.specs.declared.value.Effect.{Effect}
use Rattle.asl_code.specs.declared.lock.Expr.{Expr}
use Rattle.asl_code.specs.declared.lock.Lock.TheVariants as lock
use Rattle.asl_code.specs.declared.instr.Instr.{Instr}
use Rattle.asl_code.specs.declared.instr.Instr.TheVariants as instr
use Rattle.asl_code.specs.Fits.{FitsInstr}
use Rattle.asl_code.proofs.Versions.{fresh_by_newest}
use Rattle.asl_mode_lanes.proofs.ModeLaws.{at_most_refl}
use Rattle.asl_lock_forest.specs.Holding.{Holding, held, grant, release}
use Rattle.asl_lower.specs.Lowered.{Lowered}
use Rattle.asl_lower.specs.OpenSections.{is_acquire, FlowsTo, start_of}
use Rattle.asl_points_to.specs.Classes.{Classed}
use Rattle.asl_expression.specs.Expression.{pointed}
use Rattle.asl_lock_expr.specs.ClassOf.{Itself}
use Rattle.asl_lock_expr.specs.Links.{LinkContext, replaced, before}
use Rattle.asl_backward_flow.specs.Closed.{Family}
use Rattle.asl_machine.specs.declared.reply.Reply.{Reply}
use Rattle.asl_machine.specs.declared.reply.Reply.TheVariants as reply
use Rattle.asl_machine.specs.State.{Object, Activity, Thread, Running, Done, Failed, State, cell_at, written, new_object, activity_of, activity_at}
use Rattle.asl_machine.specs.Calls.{function_of, with_register, IsAwaited}
use Rattle.asl_machine.specs.Cover.{cover}
use Rattle.asl_machine.specs.Step.{Line, Sets, GoesTo, after, placed_at, advanced_with, going_on, called, returned, having_made, left_last, ReturnsTo}
use Rattle.asl_machine.proofs.Lists.{get_same}
use Rattle.asl_machine.proofs.Freshness.{made_keeps as made_keeps_fresh, made_new}
use Rattle.asl_machine.proofs.Placing.{function_is}
use Rattle.asl_machine.proofs.Readiness.{awaited_below}
use Rattle.asl_machine.proofs.ValueLines.{at_of}
use Rattle.asl_machine.proofs.LineKinds.{line_fails}
use Rattle.asl_soundness.specs.Coded.{classed}
use Rattle.asl_soundness.specs.Agrees.{Agrees}
use Rattle.asl_soundness.specs.Nested.{IsNestedAt}
use Rattle.asl_soundness.specs.Protected.{Protected, BaseThere}
use Rattle.asl_soundness.proofs.Having.{HasWanted}
use Rattle.asl_soundness.proofs.Protecting.{AllProtected, get_some}
use Rattle.asl_soundness.proofs.Standing.{globals_point}
use Rattle.asl_soundness.proofs.Owning.{runs_on, ends_on}
use Rattle.asl_soundness.proofs.Arguments.{parameter_value, other_value}
use Rattle.asl_soundness.proofs.Rows.{number_row, move_row, global_row, load_row, field_row}
use Rattle.asl_soundness.proofs.Stored.{store_row}
use Rattle.asl_soundness.proofs.Grown.{new_row}
use Rattle.asl_soundness.proofs.Keeping.{NoneShunned, IsAtLeast, more_keeps, made_keeps, waiting_keep, thread_keeps}
use Rattle.asl_soundness.proofs.Links.{GlobalsThere}
use Rattle.asl_soundness.proofs.NestingLines.{next_is}
use Rattle.asl_soundness.proofs.Sections.{Ready, own_view, stands, body, goes_on, stays_closed, passes, nests, unnests, wants_none, enters}
use Rattle.asl_soundness.proofs.Calling.{waiting_stored, calls, returns}

module _ (l : Lowered) (c : Classed) (stores : ℕ → ℕ → Bool) (k_limit : ℕ) (K : Family) (image : Image) (s : State) (t : ℕ) (a : Activity) (q : Ready l c stores k_limit K image s t a) where
  -- the thread, if it runs, has what it wants
  abbrev Owned : State → Activity → Type 0
  Owned u b = HasWanted l c stores k_limit K (cover u.holding b.fresh) t u.objects b

  abbrev pub IsOwned : State → Type 0
  IsOwned new = (b : Activity) → activity_at new.threads t ≡ Some b → HasWanted l c stores k_limit K (cover new.holding b.fresh) t new.objects b

  abbrev v : LinkContext
  v = own_view l c stores k_limit K image s t a q

  runs : (b : Activity) (objects : List Object) (holding : Holding) (new : State) → HasWanted l c stores k_limit K (cover holding b.fresh) t objects b → new ≡ after s t (Running b) objects holding → IsOwned new
  runs b objects holding new has e = runs_on Owned s t q.here.there objects holding new b e has

  ends : (thread : Thread) (holding : Holding) (new : State) → activity_of thread ≡ None → new ≡ after s t thread s.objects holding → IsOwned new
  ends thread holding new none e = ends_on Owned s t q.here.there s.objects holding new thread none e

  -- an instruction that sets a register, over the same objects
  sets : (i : Instr) (r : ℕ) (w : Value) (new : State) → slice_get l.code a.top.pc ≡ Some i → FlowsTo i a.top.pc (a.top.pc + 1) → is_acquire i ≡ false → GlobalsThere c i →
      ((e : Expr) (effect : Effect) → BaseThere c e.base → AllProtected (cover s.holding a.fresh) t s.objects a.top.regs (before v i e effect) → Protected (cover s.holding a.fresh) t s.objects (set a.top.regs r w) (lock.Expr e effect)) →
      Sets (at_of image s t a) r w new → IsOwned new
  sets i r w new at goes plain globals row e =
      runs (going_on a a.depth (advanced_with r w a.top)) s.objects s.holding new
      (goes_on l c stores k_limit K image s t a q (cover s.holding a.fresh) q.has i a.depth (advanced_with r w a.top) s.objects at goes refl (stays_closed l c stores k_limit K image s t a q i (a.top.pc + 1) at goes plain) globals row q.has.waiting) e

  number : (i : Instr) (r : ℕ) (w : Value) (new : State) → slice_get l.code a.top.pc ≡ Some i → FlowsTo i a.top.pc (a.top.pc + 1) → is_acquire i ≡ false → GlobalsThere c i → r < length a.top.regs → pointed w ≡ None →
      ((e : Expr) (effect : Effect) → before v i e effect ≡ replaced r e effect []) → Sets (at_of image s t a) r w new → IsOwned new
  number i r w new at goes plain globals lt none same e =
      sets i r w new at goes plain globals (λ d effect there all. number_row (cover s.holding a.fresh) t s.objects a.top.regs r lt d effect w none (subst (AllProtected (cover s.holding a.fresh) t s.objects a.top.regs) (same d effect) all)) e

  -- an instruction that changes no register, and continues at the target
  moves : (i : Instr) (target : ℕ) (new : State) → slice_get l.code a.top.pc ≡ Some i → FlowsTo i a.top.pc target → is_acquire i ≡ false → GlobalsThere c i → ((e : Expr) (effect : Effect) → before v i e effect ≡ lock.Expr e effect ∷ []) →
      GoesTo (at_of image s t a) target new → IsOwned new
  moves i target new at goes plain globals same e =
      runs (going_on a a.depth (placed_at target a.top)) s.objects s.holding new
      (passes l c stores k_limit K image s t a q i a.depth target at goes (stays_closed l c stores k_limit K image s t a q i target at goes plain) globals same) e

  -- `store`
  stored : (x y : ℕ) (new : State) → slice_get l.code a.top.pc ≡ Some (instr.Store x y) → Agrees c new → Line (at_of image s t a) (instr.Store x y) reply.Ran new → IsOwned new
  stored x y new at agrees e =
      let old = get_some (cell_at s.objects e.cell) (q.here.placed.points x (Addr e.cell.object e.cell.offset) e.reads_address) in
      let on = stands l c stores k_limit K image s t a q in
      let target = on.frame x (Addr e.cell.object e.cell.offset) e.reads_address in
      let cells = (subst (Agrees c) e.goes_on agrees).cells in
      let new_objects = written s.objects e.cell e.value in
      runs (going_on a a.depth (placed_at (a.top.pc + 1) a.top)) new_objects s.holding new
      (goes_on l c stores k_limit K image s t a q (cover s.holding a.fresh) q.has (instr.Store x y) a.depth (placed_at (a.top.pc + 1) a.top) new_objects at (next_is a.top.pc) refl (stays_closed l c stores k_limit K image s t a q (instr.Store x y) (a.top.pc + 1) at (next_is a.top.pc) refl) tt
      (λ d effect there all. store_row (cover s.holding a.fresh) t s.objects e.cell e.value old.0 old.1 v a.top.regs on cells d effect there x y e.reads_address e.reads_value all)
      (waiting_stored l c stores k_limit K image q.program (cover s.holding a.fresh) t s.objects e.cell e.value old.0 old.1 target.0 target.2 q.structured.agrees.cells on.globals cells a.top.function a.top.result a.below q.here.placed.below
      (q.structured.agrees.threads t a q.here.is).1 (Itself a.top.function a.top.pc x y target.0 (body l c stores k_limit K image s t a q) at target.1) q.has.waiting)) e.goes_on

  -- `new`: outside all sections nothing is wanted, inside one the object is fresh
  makes : (x n site : ℕ) (new : State) → slice_get l.code a.top.pc ≡ Some (instr.New x n site) → ((b : Activity) → activity_at new.threads t ≡ Some b → IsNestedAt l b) → x < length a.top.regs →
      Line (at_of image s t a) (classed c (instr.New x n site)) reply.Ran new → IsOwned new
  makes x n site new at nested lt e =
      let class = unwrap_or (slice_get c.sites site) 0 in
      let size = length s.objects in
      let more = s.objects ++ new_object class n ∷ [] in
      let b = having_made image.version a x size in
      let here : activity_at new.threads t ≡ Some b = ap (λ (u : State). activity_at u.threads t) e.makes ∙ ap (option_and_then activity_of) (get_same s.threads t (Running b) q.here.there) in
      elim (eqb_tells a.depth 0) [
        | inl outside ↦ runs b more s.holding new (wants_none l c stores k_limit K image s t a q (cover s.holding b.fresh) more b (nested b here) outside.1) e.makes
        | inr inside ↦
            let globals = globals_point l c image q.program.made s q.structured.sound in
            let cells = q.structured.sound.formed.objects.points in
            let k = cover s.holding b.fresh in
            let kept : IsAtLeast (cover s.holding a.fresh) k t = record { holds = λ node. at_most_refl (held s.holding t node); fresh = λ o f. made_keeps_fresh image.version a.depth size a.fresh o f } in
            let has = thread_keeps l c stores k_limit K q.program.closed q.program.based t NoneShunned (cover s.holding a.fresh) k s.objects s.objects (more_keeps c t (cover s.holding a.fresh) k s.objects kept) image a q.here.placed (λ o f. absurd f) q.has in
            let own = made_new image.version a.depth size a.fresh (fresh_by_newest _ q.program.made.version) (let z = inside.1 in omega (arith, z)) in
            let made = goes_on l c stores k_limit K image s t a q k has (instr.New x n site) a.depth (advanced_with x (Addr size 0) a.top) more at (next_is a.top.pc) refl (stays_closed l c stores k_limit K image s t a q (instr.New x n site) (a.top.pc + 1) at (next_is a.top.pc) refl) tt
            (λ d effect known all. new_row (own_view l c stores k_limit K image s t a q) k t s.objects a.top.regs x n class lt own q.here.placed.points globals cells d effect known all)
            (waiting_keep l c stores k_limit K q.program.closed q.program.based t NoneShunned k k s.objects more (made_keeps c t k s.objects (new_object class n ∷ []) globals cells) image
            a.top.function a.top.result a.below q.here.placed.below (λ o f. absurd f) has.waiting) in
            runs b more s.holding new (record { top = made.top; waiting = made.waiting }) e.makes
      ]

  -- `call`
  called_own : (x first g : ℕ) (new : State) → slice_get l.code a.top.pc ≡ Some (instr.Call x first g) → FitsInstr image a.top.function q.here.placed.function (instr.Call x first g) → Line (at_of image s t a) (instr.Call x first g) reply.Ran new → IsOwned new
  called_own x first g new at fits e =
      let made = q.program.made in
      let same : e.callee ≡ function_of image g = sym (function_is image g e.callee e.is) in
      let given : fits.1.0.0 ≡ e.callee = same_Some fits.1.0.0 e.callee (sym fits.1.0.1 ∙ e.is) in
      let params : (function_of image g).params ≡ fits.1.0.0.params = ap (λ (f : Function). f.params) (sym same ∙ sym given) in
      let enough : first + (function_of image g).params ≤ length a.top.regs = (let le = fits.1.0.2 in let reg = q.here.placed.registers in omega (arith, params, le, reg)) in
      let listed : slice_get l.functions g ≡ Some (function_of image g) = ap (λ fs. slice_get fs g) (sym made.functions) ∙ e.is ∙ ap (λ f. Some f) same in
      runs (called image a x first g) s.objects s.holding new
      (calls l c stores k_limit K image s t a q x first g (function_of image g) at listed (a.top.pc + 1) _ (next_is a.top.pc) refl (ap (λ fs. start_of fs g) made.functions)
      (λ n lt. parameter_value a.top.regs first (function_of image g).params (function_of image g).regs n enough lt)
      (λ n le. other_value a.top.regs first (function_of image g).params (function_of image g).regs n le)) e.calls

  -- `ret`
  returned_own : (from : ℕ) (new : State) → (e : ReturnsTo (at_of image s t a) from new) → Agrees c new → IsOwned new
  returned_own from new e agrees =
      let b = returned a (with_register e.to e.value e.caller) e.others in
      let here : activity_at (set s.threads t (Running b)) t ≡ Some b = ap (option_and_then activity_of) (get_same s.threads t (Running b) q.here.there) in
      let awaited = awaited_below image s.objects a.top.function a.top.result a.below q.structured.sound.fits q.here.placed.below in
      runs b s.objects s.holding new
      (returns l c stores k_limit K image s t a q e.to e.caller e.others e.value e.waiting e.awaits ((subst (Agrees c) e.returns agrees).threads t b here)
      (subst (λ o. IsAwaited o (e.caller ∷ e.others)) e.awaits (subst (IsAwaited a.top.result) e.waiting awaited))) e.returns

  lt_of : (x : ℕ) → x < q.here.placed.function.regs → x < length a.top.regs
  lt_of x lt = let r = q.here.placed.registers in omega (arith, r, lt)

  -- every line of the table
  pub line_owned : (i : Instr) (r : Reply) (new : State) → slice_get l.code a.top.pc ≡ Some i → FitsInstr image a.top.function q.here.placed.function (classed c i) → Agrees c new →
      ((b : Activity) → activity_at new.threads t ≡ Some b → IsNestedAt l b) → Line (at_of image s t a) (classed c i) r new → IsOwned new
  line_owned (instr.SetInt x n) reply.Ran new at fits agrees nested e = number _ x (Int n) new at (next_is a.top.pc) refl tt (lt_of x fits.0) refl (λ d effect. refl) e
  line_owned (instr.SetNull x) reply.Ran new at fits agrees nested e = number _ x Null new at (next_is a.top.pc) refl tt (lt_of x fits.0) refl (λ d effect. refl) e
  line_owned (instr.Add x y z) reply.Ran new at fits agrees nested e = number _ x _ new at (next_is a.top.pc) refl tt (lt_of x fits.0) refl (λ d effect. refl) e.4
  line_owned (instr.Subtract x y z) reply.Ran new at fits agrees nested e = number _ x _ new at (next_is a.top.pc) refl tt (lt_of x fits.0) refl (λ d effect. refl) e.4
  line_owned (instr.LessThan x y z) reply.Ran new at fits agrees nested e =
      elim e.4 [
        | inl h ↦ number _ x _ new at (next_is a.top.pc) refl tt (lt_of x fits.0) refl (λ d effect. refl) h.1
        | inr h ↦ number _ x _ new at (next_is a.top.pc) refl tt (lt_of x fits.0) refl (λ d effect. refl) h.1
      ]
  line_owned (instr.Equals x y z) reply.Ran new at fits agrees nested e =
      elim e.4 [
        | inl h ↦ number _ x _ new at (next_is a.top.pc) refl tt (lt_of x fits.0) refl (λ d effect. refl) h.1
        | inr h ↦ number _ x _ new at (next_is a.top.pc) refl tt (lt_of x fits.0) refl (λ d effect. refl) h.1
      ]
  line_owned (instr.Move x y) reply.Ran new at fits agrees nested e =
      sets (instr.Move x y) x e.0 new at (next_is a.top.pc) refl tt (λ d effect there all. move_row (cover s.holding a.fresh) t s.objects a.top.regs x (lt_of x fits.0) d effect y e.0 e.1 all) e.2
  line_owned (instr.GlobalAddress x g) reply.Ran new at fits agrees nested e =
      sets (instr.GlobalAddress x g) x (Addr g 0) new at (next_is a.top.pc) refl (subst (λ xs. g < length xs) q.program.made.globals fits.1.0) (λ d effect there all. global_row (cover s.holding a.fresh) t s.objects a.top.regs x (lt_of x fits.0) d effect g all) e
  line_owned (instr.FieldAddress x y n) reply.Ran new at fits agrees nested e =
      sets (instr.FieldAddress x y n) x (Addr e.cell.object (e.cell.offset + n)) new at (next_is a.top.pc) refl tt
      (λ d effect there all. field_row (cover s.holding a.fresh) t s.objects a.top.regs x (lt_of x fits.0) d effect y n e.cell e.size e.reads_address e.sized e.inside all) e.sets
  line_owned (instr.Load x y) reply.Ran new at fits agrees nested e =
      sets (instr.Load x y) x e.value new at (next_is a.top.pc) refl tt (λ d effect there all. load_row (cover s.holding a.fresh) t s.objects a.top.regs x (lt_of x fits.0) d effect y e.cell e.value e.reads_address e.there all) e.sets
  line_owned (instr.Store x y) reply.Ran new at fits agrees nested e = stored x y new at agrees e
  line_owned (instr.New x n site) reply.Ran new at fits agrees nested e = makes x n site new at nested (lt_of x fits.0) e
  line_owned (instr.Jump target) reply.Ran new at fits agrees nested e = moves (instr.Jump target) target new at refl refl tt (λ d effect. refl) e
  line_owned (instr.JumpIfZero x target) reply.Ran new at fits agrees nested e =
      elim e.2 [
        | inl h ↦ moves (instr.JumpIfZero x target) target new at (inl refl) refl tt (λ d effect. refl) h.1
        | inr h ↦ moves (instr.JumpIfZero x target) (a.top.pc + 1) new at (inr (next_is a.top.pc)) refl tt (λ d effect. refl) h.1
      ]
  line_owned (instr.Output from) (reply.Out value) new at fits agrees nested e = moves (instr.Output from) (a.top.pc + 1) new at (next_is a.top.pc) refl tt (λ d effect. refl) e.1
  line_owned (instr.Call x first g) reply.Ran new at fits agrees nested e = called_own x first g new at fits e
  line_owned (instr.Return from) reply.Ran new at fits agrees nested (inl e) = returned_own from new e agrees
  line_owned (instr.Return from) reply.Ran new at fits agrees nested (inr e) = ends (Done e.value) s.holding new refl e.ends
  line_owned (instr.Acquire list) reply.Ran new at fits agrees nested (inl e) = runs _ s.objects s.holding new (nests l c stores k_limit K image s t a q list (a.top.pc + 1) at (next_is a.top.pc) e.inside) e.goes_on
  line_owned (instr.Acquire list) reply.Ran new at fits agrees nested (inr e) =
      runs _ s.objects (grant s.holding t e.request) new
      (subst (λ r. HasWanted l c stores k_limit K (cover (grant s.holding t r) a.fresh) t s.objects (going_on a 1 (placed_at (a.top.pc + 1) a.top))) (sym e.asks.is)
      (enters l c stores k_limit K image s t a q list (a.top.pc + 1) e.asks.locks at (next_is a.top.pc) e.asks.listed e.asks.outside)) e.goes_on
  line_owned (instr.Acquire list) reply.Blocked new at fits agrees nested e =
      subst (λ (u : State). IsOwned u) (sym e.same) (λ b f. subst (λ (d : Activity). HasWanted l c stores k_limit K (cover s.holding d.fresh) t s.objects d) (same_Some a b (sym q.here.is ∙ f)) q.has)
  line_owned instr.Release reply.Ran new at fits agrees nested (inl e) = runs _ s.objects s.holding new (unnests l c stores k_limit K image s t a q (a.top.pc + 1) at (next_is a.top.pc)) e.goes_on
  line_owned instr.Release reply.Ran new at fits agrees nested (inr e) =
      let b = left_last a in
      let here : activity_at new.threads t ≡ Some b = ap (λ (u : State). activity_at u.threads t) e.leaves ∙ ap (option_and_then activity_of) (get_same s.threads t (Running b) q.here.there) in
      runs b s.objects (release s.holding t) new (wants_none l c stores k_limit K image s t a q (cover (release s.holding t) []) s.objects b (nested b here) refl) e.leaves
  line_owned i (reply.Fault f) new at fits agrees nested e = ends (Failed f) _ new refl (line_fails (at_of image s t a) (classed c i) f new e)
  line_owned i r new at fits agrees nested e = absurd e
