-- The first pass: every state of a run agrees with the classes, and every thread is nested; so no section is left that was not
-- entered, and none is left open.
use Rattle.std.proofs.Common.{◌≡◌, ◌≢◌, ℕ, ℤ, zero, suc, pos, ◌+◌, ◌-◌, List, [], ◌∷◌, Option, Some, length, map, slice_get, ap, ap₂, sym, ◌∙◌, subst, inl, inr, arith}
use Rattle.asl_code.specs.declared.image.Image.{Image}
use Rattle.asl_code.specs.declared.value.Value.{Value}
use Rattle.asl_code.specs.declared.value.Value.TheVariants.{Int}
use Rattle.asl_code.specs.declared.instr.Instr.{Instr}
use Rattle.asl_code.specs.declared.instr.Instr.TheVariants as instr
use Rattle.asl_lower.specs.Lowered.{Lowered}
use Rattle.asl_lower.specs.OpenSections.{open_at, start_of as body_start, IsBare, Main}
use Rattle.asl_lower.specs.Facts.{HasLayout}
use Rattle.asl_points_to.specs.Classes.{Classed, to, inside}
use Rattle.asl_expression.specs.Expression.{cell_of}
use Rattle.asl_lock_expr.specs.Agrees.{PointsTo}
use Rattle.asl_machine.specs.declared.fault.Fault.TheVariants as fault
use Rattle.asl_machine.specs.declared.reply.Reply.{Reply}
use Rattle.asl_machine.specs.declared.reply.Reply.TheVariants as reply
use Rattle.asl_machine.specs.State.{Object, Activity, State, cell_at, class_of, activity_at}
use Rattle.asl_machine.specs.Calls.{first_registers}
use Rattle.asl_machine.specs.Run.{start_of, global_object, first_activity, IsReached}
use Rattle.asl_machine.specs.WellFormed.{SatisfiesInvariant}
use Rattle.asl_machine.specs.Step.{At, Line}
use Rattle.asl_machine.specs.StepFunction.{step_of}
use Rattle.asl_machine.proofs.Invariant.{step_sound}
use Rattle.asl_machine.proofs.Starts.{start_sound}
use Rattle.asl_machine.proofs.ValueLines.{at_of}
use Rattle.asl_soundness.specs.Coded.{classed, IsImageOf}
use Rattle.asl_soundness.specs.Agrees.{FrameAgrees, FramesAgree, Agrees}
use Rattle.asl_soundness.specs.Nested.{IsNestedAt, AreNested}
use Rattle.asl_soundness.proofs.Arguments.{filled}
use Rattle.asl_soundness.proofs.Agreement.{line_agrees}
use Rattle.asl_soundness.proofs.Nesting.{never_no_section, never_open}
use Rattle.asl_soundness.proofs.NestingLines.{line_nested}
use Rattle.asl_soundness.proofs.Stepping.{sites_there, each_step, each_thread, reached_keeps, first_at}

-- what the first pass knows of a state
pub record IsStructured (l : Lowered) (c : Classed) (image : Image) (s : State) : Type 0 where
  pub sound : SatisfiesInvariant image s
  pub agrees : Agrees c s
  pub nested : AreNested l s

alone : (x v : Value) (r : ℕ) → slice_get (x ∷ []) r ≡ Some v → v ≡ x
alone x v zero e = cc
alone x v (suc r) e = cc

-- a number points nowhere
number_points : (objects : List Object) (class : Option ℕ) (v : Value) (n : ℤ) → v ≡ Int n → PointsTo (class_of objects) class v
number_points objects class v n is = subst (PointsTo (class_of objects) class) (sym is) tt

first_agrees : (c : Classed) (objects : List Object) (n count f : ℕ) → FrameAgrees c objects f (first_registers (Int (pos n) ∷ []) count)
first_agrees c objects n count f r v e =
    elim (filled (Int (pos n) ∷ []) (count - 1) r (Int (pos 0)) v e) [
      | inl own ↦ number_points objects (to c f r) v (pos n) (alone (Int (pos n)) v r own)
      | inr is ↦ number_points objects (to c f r) v (pos 0) is
    ]

-- the globals hold 0
global_number : (classes : List ℕ) (o i : ℕ) (v : Value) → cell_at (map global_object classes) (cell_of o i) ≡ Some v → v ≡ Int (pos 0)
global_number [] o i v e = cc
global_number (x ∷ xs) zero zero v e = cc
global_number (x ∷ xs) zero (suc i) v e = cc
global_number (x ∷ xs) (suc o) i v e = global_number xs o i v e

module _ (l : Lowered) (c : Classed) (image : Image) (made : IsImageOf l c image) (lay : HasLayout l) where
  -- nothing is open where the first function begins
  pub start_outside : (t : ℕ) → open_at l.code (first_activity image t).top.pc ≡ []
  start_outside t =
      let entry = made.fits.entry in
      let main_there : slice_get l.functions l.main ≡ Some entry.0 = ap₂ (λ fs k. slice_get fs k) (sym made.functions) (sym made.start) ∙ entry.1 in
      ap₂ (λ fs k. open_at l.code (body_start fs k)) made.functions made.start ∙ lay.nested.starts l.main entry.0 main_there

  pub start_structured : (count : ℕ) → IsStructured l c image (start_of image count)
  start_structured count =
      let objects = map global_object image.globals in
      record {
        sound = start_sound image count made.fits;
        agrees = record {
          cells = λ cell v x e of. number_points objects (inside c x) v (pos 0) (global_number image.globals cell.object cell.offset v e);
          threads = λ u a e.
              (let first = first_at image count u a e in
              subst (λ (b : Activity). FramesAgree c objects (b.top ∷ b.below)) first.1 (first_agrees c objects first.0 _ image.start, tt));
        };
        nested = λ u a e.
            (let first = first_at image count u a e in
            subst (IsNestedAt l) first.1
            (record { depth = sym (ap (λ xs. length {A = ℕ} xs + 0) (start_outside first.0)); kinds = (subst (IsBare l) (sym made.start) Main, tt) }));
      }

  pub step_structured : (s : State) (t : ℕ) → IsStructured l c image s → IsStructured l c image (step_of image s t).state
  step_structured s t h = record {
    sound = step_sound image s t h.sound;
    agrees = each_step l c image made s t (λ r new. Agrees c new) h.sound
        (λ a here i d. line_agrees l c image made s t a here h.agrees (sites_there l c image made lay) i _ _ d.at d.here d.legal d.line) h.agrees;
    nested = each_thread image s t (λ u b. IsNestedAt l b)
        (each_step l c image made s t (λ r new. (b : Activity) → activity_at new.threads t ≡ Some b → IsNestedAt l b) h.sound
        (λ a here i d. line_nested l lay.nested c image made s t a here (h.nested t a here.is) i _ _ d.at d.line) (h.nested t))
        (λ u b apart is. h.nested u b is);
  }

  pub reached_structured : (count : ℕ) (s : State) → IsReached image count s → IsStructured l c image s
  reached_structured count s r = reached_keeps image count (IsStructured l c image) (start_structured count) step_structured s r

  -- ---- no fault of sections

  pub line_entered : (at : At) (i : Instr) (r : Reply) (new : State) → IsNestedAt l at.activity → slice_get l.code at.activity.top.pc ≡ Some i → Line at (classed c i) r new → (r ≢ reply.Fault fault.NoSection) × (r ≢ reply.Fault fault.Open)
  line_entered at instr.Release (reply.Fault fault.NoSection) new nested here e = absurd (never_no_section l lay.nested at.activity nested here e.0)
  line_entered at (instr.Return from) (reply.Fault fault.Open) new nested here e =
      absurd (let z = never_open l lay.nested at.activity nested from here e.0 in let lt = e.1 in omega (arith, z, lt))
  line_entered at i (reply.Fault fault.NoSection) new nested here e = absurd e
  line_entered at i (reply.Fault fault.Open) new nested here e = absurd e
  line_entered at i r new nested here e = (λ f. cc, λ f. cc)

  -- no section is left that was not entered, and none is left open
  pub step_entered : (s : State) (t : ℕ) → IsStructured l c image s → ((step_of image s t).reply ≢ reply.Fault fault.NoSection) × ((step_of image s t).reply ≢ reply.Fault fault.Open)
  step_entered s t h =
      each_step l c image made s t (λ r new. (r ≢ reply.Fault fault.NoSection) × (r ≢ reply.Fault fault.Open)) h.sound
      (λ a here i d. line_entered (at_of image s t a) i _ _ (h.nested t a here.is) d.at d.line) (λ f. cc, λ f. cc)
