-- Objects of which a thread knows nothing: it has no address in one, and none stands in a cell that it may read. By no step of its own does
-- it come to have one, whatever the kind of the line.
use Rattle.std.proofs.Common.{◌≡◌, ◌≢◌, ℕ, ◌<◌, ◌≤◌, true, List, ◌∷◌, Some, None, length, slice_get, refl, ap, sym, ◌∙◌, subst, arith}
use Rattle.std.specs.Prelude.{option_and_then}
use Rattle.std.proofs.lemmas.Option.{same_Some, slice_get_within}
use Rattle.asl_code.specs.declared.image.Image.{Image}
use Rattle.asl_code.specs.declared.instr.Instr.{Instr}
use Rattle.asl_code.specs.declared.instr.Instr.TheVariants as instr
use Rattle.asl_code.specs.declared.value.Value.{Value}
use Rattle.asl_code.specs.declared.value.Value.TheVariants.{Addr}
use Rattle.asl_code.specs.declared.value.Cell.{Cell}
use Rattle.asl_code.specs.declared.value.Effect.TheVariants.{Read}
use Rattle.asl_lock_forest.specs.Holding.{Holding}
use Rattle.asl_machine.specs.declared.reply.Reply.{Reply}
use Rattle.asl_machine.specs.State.{Object, Frame, Activity, Thread, Running, Done, Failed, State, cell_at, activity_of, activity_at}
use Rattle.asl_machine.specs.Calls.{function_of, with_register}
use Rattle.asl_machine.specs.Fresh.{AllElsewhere}
use Rattle.asl_machine.specs.WellFormed.{SatisfiesInvariant}
use Rattle.asl_machine.specs.Step.{Step, after, advanced, advanced_with, going_on, placed_at, called, returned, having_made, left_last, is_allowed}
use Rattle.asl_machine.proofs.Lists.{get_same}
use Rattle.asl_machine.proofs.ValueLines.{at_of}
use Rattle.asl_machine.proofs.Elsewhere.{set_elsewhere, called_elsewhere}
use Rattle.asl_machine.proofs.LineKinds.{Comes, NoAddress, Copied, OfGlobal, Moved, Loaded, Kind, Setting, Going, Storing, Making, Calling, Returning, Ending, Entering, Waiting, Leaving, Failing, StepKind, Over, Does, step_kind}

-- the object is there and no global; the thread has no address in it, and none is in a cell that it may read
pub record IsUnknown (image : Image) (s : State) (t : ℕ) (a : Activity) (o : ℕ) : Type 0 where
  pub no_global : length image.globals ≤ o
  pub there : o < length s.objects
  pub registers : AllElsewhere o (a.top ∷ a.below)
  pub cells : (address offset : ℕ) (cell : Cell) → slice_get a.top.regs address ≡ Some (Addr cell.object cell.offset) → is_allowed (at_of image s t a) Read cell ≡ true → cell_at s.objects cell ≢ Some (Addr o offset)

module _ {image : Image} {s : State} {t : ℕ} {a : Activity} {o : ℕ} (sound : SatisfiesInvariant image s) (is : activity_at s.threads t ≡ Some a) (u : IsUnknown image s t a o) where
  -- a register is set to no address in it
  pub comes_elsewhere : (i : Instr) (v : Value) → slice_get image.code a.top.pc ≡ Some i → Comes (at_of image s t a) i v → (k : ℕ) → v ≢ Addr o k
  comes_elsewhere i v here (NoAddress none) k e = none o k e
  comes_elsewhere i v here (Copied from reads) k e = u.registers.0 from k (reads ∙ ap (λ z. Some z) e)
  comes_elsewhere i v here (OfGlobal to g same value) k e =
      let p = sound.formed.placed t a is in
      let lt = (sound.fits.instr_fits a.top.function a.top.pc p.function (instr.GlobalAddress to g) p.lies (here ∙ ap (λ z. Some z) same)).1.0 in
      let le = u.no_global in
      let one : Addr g 0 ≡ Addr o k = sym value ∙ e in
      let object : g ≡ o = cc in
      omega (arith, lt, le, object)
  comes_elsewhere i v here (Moved from offset cell reads value) k e =
      let one : Addr cell.object offset ≡ Addr o k = sym value ∙ e in
      let object : cell.object ≡ o = cc in
      u.registers.0 from cell.offset (reads ∙ ap (λ (n : ℕ). Some (Addr n cell.offset)) object)
  comes_elsewhere i v here (Loaded address cell reads allowed holds) k e = u.cells address k cell reads allowed (holds ∙ ap (λ z. Some z) e)

  -- the frames after each kind of line
  pub setting_elsewhere : (i : Instr) (to : ℕ) (v : Value) → slice_get image.code a.top.pc ≡ Some i → Comes (at_of image s t a) i v → AllElsewhere o (advanced_with to v a.top ∷ a.below)
  setting_elsewhere i to v here comes = (set_elsewhere o a.top.regs to v u.registers.0 (comes_elsewhere i v here comes), u.registers.1)

  pub making_elsewhere : (to : ℕ) → AllElsewhere o (advanced_with to (Addr (length s.objects) 0) a.top ∷ a.below)
  making_elsewhere to =
      (set_elsewhere o a.top.regs to (Addr (length s.objects) 0) u.registers.0 (λ k e. (let same : length s.objects ≡ o = cc in let lt = u.there in omega (arith, lt, same))), u.registers.1)

  pub calling_elsewhere : (to first g : ℕ) → AllElsewhere o ((called image a to first g).top ∷ advanced a.top ∷ a.below)
  calling_elsewhere to first g = (called_elsewhere o a.top.regs first (function_of image g).params (function_of image g).regs u.registers.0, u.registers)

  pub returning_elsewhere : (from to : ℕ) (caller : Frame) (others : List Frame) (v : Value) → a.below ≡ caller ∷ others → slice_get a.top.regs from ≡ Some v → AllElsewhere o (with_register to v caller ∷ others)
  returning_elsewhere from to caller others v waiting reads =
      let q : AllElsewhere o (caller ∷ others) = subst (AllElsewhere o) waiting u.registers.1 in
      (set_elsewhere o caller.regs to v q.0 (λ k e. u.registers.0 from k (reads ∙ ap (λ z. Some z) e)), q.1)

-- ---- a step

module _ (image : Image) (s : State) (t : ℕ) (a : Activity) (sound : SatisfiesInvariant image s) (is : slice_get s.threads t ≡ Some (Running a)) (o : ℕ) (u : IsUnknown image s t a o) (new : State) (b : Activity) (now : slice_get new.threads t ≡ Some (Running b)) where
  there : t < length s.threads
  there = slice_get_within s.threads t (Running a) is

  here_is : activity_at s.threads t ≡ Some a
  here_is = ap (option_and_then activity_of) is

  -- the thread runs on with these frames, or has ended
  runs : (c : Activity) (objects : List Object) (holding : Holding) → AllElsewhere o (c.top ∷ c.below) → new ≡ after s t (Running c) objects holding → AllElsewhere o (b.top ∷ b.below)
  runs c objects holding away e =
      let at : slice_get new.threads t ≡ Some (Running c) = ap (λ (z : State). slice_get z.threads t) e ∙ get_same s.threads t (Running c) there in
      let same : c ≡ b = same_Some _ _ (ap (option_and_then activity_of) (sym at ∙ now)) in
      subst (λ (x : Activity). AllElsewhere o (x.top ∷ x.below)) same away

  ended : (thread : Thread) (objects : List Object) (holding : Holding) → activity_of thread ≡ None → new ≡ after s t thread objects holding → ⊥
  ended thread objects holding none e =
      let at : slice_get new.threads t ≡ Some thread = ap (λ (z : State). slice_get z.threads t) e ∙ get_same s.threads t thread there in
      let bad : None ≡ Some b = sym none ∙ ap (option_and_then activity_of) (sym at ∙ now) in
      cc

  kind_elsewhere : (i : Instr) (r : Reply) → slice_get image.code a.top.pc ≡ Some i → Kind (at_of image s t a) i r new → AllElsewhere o (b.top ∷ b.below)
  kind_elsewhere i r here (Setting to v comes e) = runs (going_on a a.depth (advanced_with to v a.top)) s.objects s.holding (setting_elsewhere sound here_is u i to v here comes) e
  kind_elsewhere i r here (Going depth target deep e) = runs (going_on a depth (placed_at target a.top)) s.objects s.holding u.registers e
  kind_elsewhere i r here (Storing address from same ran e) = runs (going_on a a.depth (advanced a.top)) _ s.holding u.registers e.goes_on
  kind_elsewhere i r here (Making to cells class same ran e) = runs (having_made image.version a to (length s.objects)) _ s.holding (making_elsewhere sound here_is u to) e.makes
  kind_elsewhere i r here (Calling to first g e) = runs (called image a to first g) s.objects s.holding (calling_elsewhere sound here_is u to first g) e.calls
  kind_elsewhere i r here (Returning from e) = runs (returned a (with_register e.to e.value e.caller) e.others) s.objects s.holding (returning_elsewhere sound here_is u from e.to e.caller e.others e.value e.waiting e.reads_value) e.returns
  kind_elsewhere i r here (Ending from e) = absurd (ended (Done e.value) s.objects s.holding refl e.ends)
  kind_elsewhere i r here (Entering list same ran e) = runs (going_on a 1 (advanced a.top)) s.objects _ u.registers e.goes_on
  kind_elsewhere i r here (Waiting list e) =
      let same : a ≡ b = same_Some _ _ (ap (option_and_then activity_of) (sym is ∙ ap (λ (z : State). slice_get z.threads t) (sym e.same) ∙ now)) in
      subst (λ (x : Activity). AllElsewhere o (x.top ∷ x.below)) same u.registers
  kind_elsewhere i r here (Leaving same ran e) = runs (left_last a) s.objects _ u.registers e.leaves
  kind_elsewhere i r here (Failing f same e) = absurd (ended (Failed f) s.objects _ refl e)

-- after its step a thread has no address in an object of which it knew nothing
pub step_elsewhere : (image : Image) (s : State) (t : ℕ) (r : Reply) (new : State) → SatisfiesInvariant image s → Step image s t r new → (o : ℕ) →
    ((a : Activity) → slice_get s.threads t ≡ Some (Running a) → IsUnknown image s t a o) → (b : Activity) → slice_get new.threads t ≡ Some (Running b) → AllElsewhere o (b.top ∷ b.below)
step_elsewhere image s t r new sound step o unknown b now = by_kind (step_kind image s t r new step)
  where
    by_kind : StepKind image s t r new → AllElsewhere o (b.top ∷ b.below)
    by_kind (Over e) = (unknown b (ap (λ (z : State). slice_get z.threads t) (sym e) ∙ now)).registers
    by_kind (Does a i is here kind) = kind_elsewhere image s t a sound is o (unknown a is) new b now i r here kind
