-- The law of links of one step: where all to which a lock is linked is protected before the step of a thread that stays in its
-- frame and in a section, the lock is protected after it.
use Rattle.std.proofs.Common.{◌≡◌, ◌≢◌, ℕ, suc, ◌+◌, ◌<◌, ◌++◌, Bool, List, [], ◌∷◌, Some, None, length, slice_get, refl, ap, sym, ◌∙◌, subst, inl, inr, arith}
use Rattle.std.specs.Prelude.{unwrap_or}
use Rattle.std.proofs.lemmas.Option.{same_Some}
use Rattle.asl_code.specs.declared.image.Image.{Image}
use Rattle.asl_code.specs.declared.value.Value.{Value}
use Rattle.asl_code.specs.declared.value.Value.TheVariants.{Int, Null, Addr}
use Rattle.asl_code.specs.declared.value.Effect.{Effect}
use Rattle.asl_code.specs.declared.lock.Expr.{Expr}
use Rattle.asl_code.specs.declared.lock.Lock.{Lock}
use Rattle.asl_code.specs.declared.lock.Lock.TheVariants as lock
use Rattle.asl_code.specs.declared.instr.Instr.{Instr}
use Rattle.asl_code.specs.declared.instr.Instr.TheVariants as instr
use Rattle.asl_code.specs.Fits.{FitsInstr}
use Rattle.asl_code.proofs.Versions.{fresh_by_newest}
use Rattle.asl_mode_lanes.proofs.ModeLaws.{at_most_refl}
use Rattle.asl_lock_forest.specs.Holding.{Holding, held}
use Rattle.asl_lower.specs.Lowered.{Lowered}
use Rattle.asl_points_to.specs.Classes.{Classed}
use Rattle.asl_expression.specs.Expression.{pointed}
use Rattle.asl_lock_expr.specs.Links.{LinkContext, view, replaced, before, link}
use Rattle.asl_machine.specs.declared.reply.Reply.{Reply}
use Rattle.asl_machine.specs.declared.reply.Reply.TheVariants as reply
use Rattle.asl_machine.specs.State.{Object, Frame, Activity, Thread, Running, Done, Failed, State, cell_at, written, new_object, activity_of, activity_at}
use Rattle.asl_machine.specs.Cover.{Cover, cover}
use Rattle.asl_machine.specs.Step.{Line, after, placed_at, advanced, advanced_with, going_on, having_made}
use Rattle.asl_machine.specs.StepFunction.{step_of}
use Rattle.asl_machine.proofs.Freshness.{made_keeps, made_new}
use Rattle.asl_machine.proofs.Following.{Here}
use Rattle.asl_machine.proofs.ValueLines.{at_of}
use Rattle.asl_machine.proofs.LineKinds.{line_fails}
use Rattle.asl_soundness.specs.Coded.{classed, IsImageOf}
use Rattle.asl_soundness.specs.Agrees.{Agrees}
use Rattle.asl_soundness.specs.Protected.{Protected, BaseThere, LockThere}
use Rattle.asl_soundness.proofs.Protecting.{Stands, AllProtected, get_some}
use Rattle.asl_soundness.proofs.Standing.{globals_agree, globals_point}
use Rattle.asl_soundness.proofs.Owning.{runs_on, ends_on}
use Rattle.asl_soundness.proofs.Rows.{number_row, move_row, global_row, load_row, field_row}
use Rattle.asl_soundness.proofs.Stored.{store_row}
use Rattle.asl_soundness.proofs.Grown.{new_row}
use Rattle.asl_soundness.proofs.Keeping.{IsAtLeast, more_protects}
use Rattle.asl_soundness.proofs.Links.{GlobalsThere, link_protects}
use Rattle.asl_soundness.proofs.Stepping.{own_step}
use Rattle.asl_soundness.proofs.Structure.{IsStructured}

-- a frame that is put on others makes them more
one_more_frame : (f : Frame) (fs : List Frame) → f ∷ fs ≢ fs
one_more_frame f fs e = let z : suc (length fs) ≡ length fs = ap (length {A = Frame}) e in omega (arith, z)

module _ (l : Lowered) (c : Classed) (stores : ℕ → ℕ → Bool) (k_limit : ℕ) (image : Image) (made : IsImageOf l c image) (s : State) (t : ℕ) (a : Activity) (q : IsStructured l c image s) (h : Here image s t a) (inside : 0 < a.depth) (n : Lock) (there : LockThere c n) where
  abbrev v : LinkContext
  v = view c stores k_limit a.top.function

  abbrev k : Cover
  k = cover s.holding a.fresh

  own_stands : Stands v s.objects a.top.regs
  own_stands = record { cells = q.agrees.cells; frame = (q.agrees.threads t a h.is).0; globals = globals_agree l c image made s q.sound }

  -- in this state, where the thread is at this, in a section and above the same frames, the lock is protected
  abbrev Behind : State → Activity → Type 0
  Behind u b = 0 < b.depth → b.below ≡ a.below → Protected (cover u.holding b.fresh) t u.objects b.top.regs n

  abbrev pub IsBehind : State → Type 0
  IsBehind new = (b : Activity) → activity_at new.threads t ≡ Some b → 0 < b.depth → b.below ≡ a.below → Protected (cover new.holding b.fresh) t new.objects b.top.regs n

  runs : (b : Activity) (objects : List Object) (holding : Holding) (new : State) → Behind (after s t (Running b) objects holding) b → new ≡ after s t (Running b) objects holding → IsBehind new
  runs b objects holding new p e = runs_on Behind s t h.there objects holding new b e p

  ends : (thread : Thread) (holding : Holding) (new : State) → activity_of thread ≡ None → new ≡ after s t thread s.objects holding → IsBehind new
  ends thread holding new none e = ends_on Behind s t h.there s.objects holding new thread none e

  -- an instruction with such a law, which continues in the frame
  linked : (i : Instr) (depth : ℕ) (g : Frame) (objects : List Object) (new : State) → AllProtected k t s.objects a.top.regs (link v i n) → GlobalsThere c i →
      ((e : Expr) (effect : Effect) → BaseThere c e.base → AllProtected k t s.objects a.top.regs (before v i e effect) → Protected k t objects g.regs (lock.Expr e effect)) →
      new ≡ after s t (Running (going_on a depth g)) objects s.holding → IsBehind new
  linked i depth g objects new all globals row e =
      runs (going_on a depth g) objects s.holding new (λ deep same. link_protects v k t s.objects objects a.top.regs g.regs i own_stands globals row n there all) e

  -- one that leaves registers and objects, and every expression
  passes : (i : Instr) (depth next : ℕ) (new : State) → AllProtected k t s.objects a.top.regs (link v i n) → GlobalsThere c i → ((e : Expr) (effect : Effect) → before v i e effect ≡ lock.Expr e effect ∷ []) →
      new ≡ after s t (Running (going_on a depth (placed_at next a.top))) s.objects s.holding → IsBehind new
  passes i depth next new all globals same e =
      linked i depth (placed_at next a.top) s.objects new all globals (λ d effect known p. subst (AllProtected k t s.objects a.top.regs) (same d effect) p (lock.Expr d effect) (inl refl)) e

  -- one that sets a register to no address
  number : (i : Instr) (r : ℕ) (w : Value) (new : State) → AllProtected k t s.objects a.top.regs (link v i n) → GlobalsThere c i → r < length a.top.regs → pointed w ≡ None → ((e : Expr) (effect : Effect) → before v i e effect ≡ replaced r e effect []) →
      new ≡ after s t (Running (going_on a a.depth (advanced_with r w a.top))) s.objects s.holding → IsBehind new
  number i r w new all globals lt none same e =
      linked i a.depth (advanced_with r w a.top) s.objects new all globals
      (λ d effect known p. number_row k t s.objects a.top.regs r lt d effect w none (subst (AllProtected k t s.objects a.top.regs) (same d effect) p)) e

  stored : (x y : ℕ) (new : State) → AllProtected k t s.objects a.top.regs (link v (instr.Store x y) n) → Agrees c new → Line (at_of image s t a) (instr.Store x y) reply.Ran new → IsBehind new
  stored x y new all agrees e =
      let old = get_some (cell_at s.objects e.cell) (h.placed.points x (Addr e.cell.object e.cell.offset) e.reads_address) in
      let cells = (subst (Agrees c) e.goes_on agrees).cells in
      linked (instr.Store x y) a.depth (advanced a.top) (written s.objects e.cell e.value) new all tt
      (λ d effect known p. store_row k t s.objects e.cell e.value old.0 old.1 v a.top.regs own_stands cells d effect known x y e.reads_address e.reads_value p) e.goes_on

  -- `new`: inside a section the object is fresh
  makes : (x m site : ℕ) (new : State) → AllProtected k t s.objects a.top.regs (link v (instr.New x m site) n) → x < length a.top.regs → Line (at_of image s t a) (classed c (instr.New x m site)) reply.Ran new → IsBehind new
  makes x m site new all lt e =
      let class = unwrap_or (slice_get c.sites site) 0 in
      let size = length s.objects in
      let more = s.objects ++ new_object class m ∷ [] in
      let b = having_made image.version a x size in
      let now = cover s.holding b.fresh in
      let kept : IsAtLeast k now t = record { holds = λ node. at_most_refl (held s.holding t node); fresh = λ o f. made_keeps image.version a.depth size a.fresh o f } in
      let own = made_new image.version a.depth size a.fresh (fresh_by_newest _ made.version) inside in
      runs b more s.holding new
      (λ deep same. link_protects v now t s.objects more a.top.regs b.top.regs (instr.New x m site) own_stands tt
      (λ d effect known p. new_row v now t s.objects a.top.regs x m class lt own h.placed.points (globals_point l c image made s q.sound) q.sound.formed.objects.points d effect known p)
      n there (λ z o. more_protects t k now s.objects a.top.regs kept z (all z o))) e.makes

  lt_of : (x : ℕ) → x < h.placed.function.regs → x < length a.top.regs
  lt_of x lt = let r = h.placed.registers in omega (arith, r, lt)

  -- every line of the table
  pub line_links : (i : Instr) (r : Reply) (new : State) → FitsInstr image a.top.function h.placed.function (classed c i) → Agrees c new → AllProtected k t s.objects a.top.regs (link v i n) → Line (at_of image s t a) (classed c i) r new → IsBehind new
  line_links (instr.SetInt x m) reply.Ran new fits agrees all e = number (instr.SetInt x m) x (Int m) new all tt (lt_of x fits.0) refl (λ d effect. refl) e
  line_links (instr.SetNull x) reply.Ran new fits agrees all e = number (instr.SetNull x) x Null new all tt (lt_of x fits.0) refl (λ d effect. refl) e
  line_links (instr.Add x y z) reply.Ran new fits agrees all e = number (instr.Add x y z) x _ new all tt (lt_of x fits.0) refl (λ d effect. refl) e.4
  line_links (instr.Subtract x y z) reply.Ran new fits agrees all e = number (instr.Subtract x y z) x _ new all tt (lt_of x fits.0) refl (λ d effect. refl) e.4
  line_links (instr.LessThan x y z) reply.Ran new fits agrees all e =
      elim e.4 [
        | inl h ↦ number (instr.LessThan x y z) x _ new all tt (lt_of x fits.0) refl (λ d effect. refl) h.1
        | inr h ↦ number (instr.LessThan x y z) x _ new all tt (lt_of x fits.0) refl (λ d effect. refl) h.1
      ]
  line_links (instr.Equals x y z) reply.Ran new fits agrees all e =
      elim e.4 [
        | inl h ↦ number (instr.Equals x y z) x _ new all tt (lt_of x fits.0) refl (λ d effect. refl) h.1
        | inr h ↦ number (instr.Equals x y z) x _ new all tt (lt_of x fits.0) refl (λ d effect. refl) h.1
      ]
  line_links (instr.Move x y) reply.Ran new fits agrees all e =
      linked (instr.Move x y) a.depth (advanced_with x e.0 a.top) s.objects new all tt (λ d effect known p. move_row k t s.objects a.top.regs x (lt_of x fits.0) d effect y e.0 e.1 p) e.2
  line_links (instr.GlobalAddress x g) reply.Ran new fits agrees all e =
      linked (instr.GlobalAddress x g) a.depth (advanced_with x (Addr g 0) a.top) s.objects new all (subst (λ xs. g < length xs) made.globals fits.1.0) (λ d effect known p. global_row k t s.objects a.top.regs x (lt_of x fits.0) d effect g p) e
  line_links (instr.FieldAddress x y m) reply.Ran new fits agrees all e =
      linked (instr.FieldAddress x y m) a.depth (advanced_with x (Addr e.cell.object (e.cell.offset + m)) a.top) s.objects new all tt
      (λ d effect known p. field_row k t s.objects a.top.regs x (lt_of x fits.0) d effect y m e.cell e.size e.reads_address e.sized e.inside p) e.sets
  line_links (instr.Load x y) reply.Ran new fits agrees all e =
      linked (instr.Load x y) a.depth (advanced_with x e.value a.top) s.objects new all tt (λ d effect known p. load_row k t s.objects a.top.regs x (lt_of x fits.0) d effect y e.cell e.value e.reads_address e.there p) e.sets
  line_links (instr.Store x y) reply.Ran new fits agrees all e = stored x y new all agrees e
  line_links (instr.New x m site) reply.Ran new fits agrees all e = makes x m site new all (lt_of x fits.0) e
  line_links (instr.Jump target) reply.Ran new fits agrees all e = passes (instr.Jump target) a.depth target new all tt (λ d effect. refl) e
  line_links (instr.JumpIfZero x target) reply.Ran new fits agrees all e =
      elim e.2 [
        | inl h ↦ passes (instr.JumpIfZero x target) a.depth target new all tt (λ d effect. refl) h.1
        | inr h ↦ passes (instr.JumpIfZero x target) a.depth (a.top.pc + 1) new all tt (λ d effect. refl) h.1
      ]
  line_links (instr.Output from) (reply.Out value) new fits agrees all e = passes (instr.Output from) a.depth (a.top.pc + 1) new all tt (λ d effect. refl) e.1
  line_links (instr.Call x first g) reply.Ran new fits agrees all e = runs _ s.objects s.holding new (λ deep same. absurd (one_more_frame _ a.below same)) e.calls
  line_links (instr.Return from) reply.Ran new fits agrees all (inl e) = runs _ s.objects s.holding new (λ deep same. absurd (one_more_frame e.caller e.others (sym (same ∙ e.waiting)))) e.returns
  line_links (instr.Return from) reply.Ran new fits agrees all (inr e) = ends (Done e.value) s.holding new refl e.ends
  line_links (instr.Acquire list) reply.Ran new fits agrees all (inl e) = passes (instr.Acquire list) (a.depth + 1) (a.top.pc + 1) new all tt (λ d effect. refl) e.goes_on
  line_links (instr.Acquire list) reply.Ran new fits agrees all (inr e) = absurd (let z = e.asks.outside in omega (arith, z, inside))
  line_links (instr.Acquire list) reply.Blocked new fits agrees all e = absurd (let z = e.asks.outside in omega (arith, z, inside))
  line_links instr.Release reply.Ran new fits agrees all (inl e) = passes instr.Release _ (a.top.pc + 1) new all tt (λ d effect. refl) e.goes_on
  line_links instr.Release reply.Ran new fits agrees all (inr e) = runs _ s.objects _ new (λ deep same. absurd (omega (arith, deep))) e.leaves
  line_links i (reply.Fault f) new fits agrees all e = ends (Failed f) _ new refl (line_fails (at_of image s t a) (classed c i) f new e)
  line_links i r new fits agrees all e = absurd e

-- so it is of the step of a thread that is at the instruction
pub step_links : (l : Lowered) (c : Classed) (stores : ℕ → ℕ → Bool) (k_limit : ℕ) (image : Image) → IsImageOf l c image → (s : State) (t : ℕ) (a b : Activity) (i : Instr) (n : Lock) → IsStructured l c image s → Agrees c (step_of image s t).state →
    activity_at s.threads t ≡ Some a → slice_get l.code a.top.pc ≡ Some i → activity_at (step_of image s t).state.threads t ≡ Some b → 0 < a.depth → 0 < b.depth → b.below ≡ a.below → LockThere c n →
    AllProtected (cover s.holding a.fresh) t s.objects a.top.regs (link (view c stores k_limit a.top.function) i n) →
    Protected (cover (step_of image s t).state.holding b.fresh) t (step_of image s t).state.objects b.top.regs n
step_links l c stores k_limit image made s t a b i n q agrees is at now inside deep same there all =
    let own = own_step l c image made s t a q.sound is in
    let d = own.1.1 in
    let one : i ≡ own.1.0 = same_Some i own.1.0 (sym at ∙ d.at) in
    line_links l c stores k_limit image made s t a q own.0 inside n there own.1.0 _ _ d.fits agrees
    (subst (λ j. AllProtected (cover s.holding a.fresh) t s.objects a.top.regs (link (view c stores k_limit a.top.function) j n)) one all) d.line b now deep same
