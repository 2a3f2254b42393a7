-- What a running thread's step is: a line of the table, at an instruction of the lowering.
use Rattle.std.proofs.Common.{◌≡◌, ◌≢◌, ℕ, zero, suc, ◌<◌, List, Some, None, length, slice_get, refl, ap, sym, ◌∙◌, subst, inl, inr, arith}
use Rattle.std.specs.Prelude.{option_and_then}
use Rattle.std.proofs.lemmas.Option.{slice_get_within, same_Some}
use Rattle.std.proofs.lemmas.Bool.Decides.{eqb_tells}
use Rattle.asl_code.specs.declared.image.Image.{Image}
use Rattle.asl_code.specs.declared.instr.Instr.{Instr}
use Rattle.asl_code.specs.declared.instr.Instr.TheVariants as instr
use Rattle.asl_code.specs.Fits.{FitsInstr}
use Rattle.asl_lower.specs.Lowered.{Lowered}
use Rattle.asl_lower.specs.OpenSections.{InBody}
use Rattle.asl_lower.specs.Facts.{HasLayout}
use Rattle.asl_points_to.specs.Classes.{Classed, IsLegalAt}
use Rattle.asl_machine.specs.declared.reply.Reply.{Reply}
use Rattle.asl_machine.specs.declared.reply.Reply.TheVariants as reply
use Rattle.asl_machine.specs.State.{Activity, Thread, Running, Done, Failed, State, activity_of, activity_at}
use Rattle.asl_machine.specs.Run.{start_of, first_thread, first_threads, first_activity, IsReached}
use Rattle.asl_machine.specs.WellFormed.{SatisfiesInvariant}
use Rattle.asl_machine.specs.Step.{Line, StepOf}
use Rattle.asl_machine.specs.StepFunction.{step_of, step_at}
use Rattle.asl_machine.proofs.Lines.{of_line, reached_keeps as lines_keep}
use Rattle.asl_machine.proofs.Lists.{one_more}
use Rattle.asl_machine.proofs.Others.{step_leaves}
use Rattle.asl_machine.proofs.Following.{Here}
use Rattle.asl_machine.proofs.Invariant.{here_of}
use Rattle.asl_machine.proofs.ValueLines.{at_of}
use Rattle.asl_machine.proofs.Table.{step_is}
use Rattle.asl_soundness.specs.Coded.{classed, IsImageOf}
use Rattle.asl_soundness.proofs.Standing.{body_of, lowered_at}
use Rattle.asl_soundness.proofs.Owning.{IsOwn}

-- a running thread's line: the instruction of the lowering at which it is, which has what it is owed and fits
pub record Does (l : Lowered) (c : Classed) (image : Image) (s : State) (t : ℕ) (a : Activity) (h : Here image s t a) (i : Instr) (r : Reply) (new : State) : Type 0 where
  pub at : slice_get l.code a.top.pc ≡ Some i
  pub here : slice_get image.code a.top.pc ≡ Some (classed c i)
  pub body : InBody l a.top.function a.top.pc
  pub legal : IsLegalAt l c a.top.function i
  pub fits : FitsInstr image a.top.function h.placed.function (classed c i)
  pub line : Line (at_of image s t a) (classed c i) r new

-- each `new` of the lowering has a site that has a class
pub sites_there : (l : Lowered) (c : Classed) (image : Image) → IsImageOf l c image → HasLayout l → (pc a n site : ℕ) → slice_get l.code pc ≡ Some (instr.New a n site) → site < length c.sites
sites_there l c image made lay pc a n site at = let lt = lay.numbered.known_sites pc a n site at in let same = made.legal.sites in omega (arith, lt, same)

-- a thread that is at something runs
runs_at : (thread : Thread) (a : Activity) → activity_of thread ≡ Some a → thread ≡ Running a
runs_at (Running b) a e = ap (λ x. Running x) (same_Some b a e)
runs_at (Done v) a e = cc
runs_at (Failed f) a e = cc

running_there : (threads : List Thread) (t : ℕ) (a : Activity) → activity_at threads t ≡ Some a → slice_get threads t ≡ Some (Running a)
running_there threads t a e =
    elim (slice_get threads t) as (λ o. slice_get threads t ≡ o → option_and_then activity_of o ≡ Some a → slice_get threads t ≡ Some (Running a)) [
      | None ↦ λ is f. cc
      | Some thread ↦ λ is f. is ∙ ap (λ x. Some x) (runs_at thread a f)
    ] refl e

module _ (l : Lowered) (c : Classed) (image : Image) (made : IsImageOf l c image) where
  does : (s : State) (t : ℕ) (a : Activity) (h : Here image s t a) (r : Reply) (new : State) → StepOf image s t (Some (Running a)) r new → (i : Instr) × Does l c image s t a h i r new
  does s t a h r new step =
      let i = lowered_at l c image made a.top.pc step.0 step.1 in
      let here : slice_get image.code a.top.pc ≡ Some (classed c i.0) = step.1 ∙ ap (λ j. Some j) (sym i.2) in
      let body = body_of l c image made a.top.function a.top.pc h.placed.function h.placed.lies in (
        i.0,
        record {
          at = i.1;
          here = here;
          body = body;
          legal = made.legal.instrs a.top.function a.top.pc i.0 body i.1;
          fits = h.sound.fits.instr_fits a.top.function a.top.pc h.placed.function (classed c i.0) h.placed.lies here;
          line = subst (λ j. Line (at_of image s t a) j r new) (sym i.2) step.2;
        },
      )

  -- the step of a running thread is its line
  pub own_step : (s : State) (t : ℕ) (a : Activity) → SatisfiesInvariant image s → activity_at s.threads t ≡ Some a →
      (h : Here image s t a) × ((i : Instr) × Does l c image s t a h i (step_of image s t).reply (step_of image s t).state)
  own_step s t a sound is =
      let e = running_there s.threads t a is in
      let h = here_of image s t a sound e in (
        h,
        does s t a h (step_of image s t).reply (step_of image s t).state
            (subst (λ o. StepOf image s t o (step_of image s t).reply (step_of image s t).state) e (step_is image s t sound h.there)),
      )

  -- what holds of each step: of each running thread's line, and where nothing is done
  pub each_step : (s : State) (t : ℕ) (P : Reply → State → Type 0) → SatisfiesInvariant image s →
      ((a : Activity) (h : Here image s t a) (i : Instr) → Does l c image s t a h i (step_of image s t).reply (step_of image s t).state → P (step_of image s t).reply (step_of image s t).state) →
      P reply.Ended s → P (step_of image s t).reply (step_of image s t).state
  each_step s t P sound running idle =
      elim (slice_get s.threads t) as (λ o. slice_get s.threads t ≡ o → P (step_of image s t).reply (step_of image s t).state) [
        | None ↦ λ is. subst (λ o. P (step_at image s t o).reply (step_at image s t o).state) (sym is) idle
        | Some thread ↦ λ is. by_thread thread is
            (subst (λ o. StepOf image s t o (step_of image s t).reply (step_of image s t).state) is (step_is image s t sound (slice_get_within s.threads t thread is)))
      ] refl
    where
      by_thread : (thread : Thread) → slice_get s.threads t ≡ Some thread → StepOf image s t (Some thread) (step_of image s t).reply (step_of image s t).state → P (step_of image s t).reply (step_of image s t).state
      by_thread (Running a) is step =
          let h = here_of image s t a sound is in
          let d = does s t a h (step_of image s t).reply (step_of image s t).state step in
          running a h d.0 d.1
      by_thread (Done v) is step = subst (λ r. P r (step_of image s t).state) (sym step.0) (subst (P reply.Ended) (sym step.1) idle)
      by_thread (Failed f) is step = subst (λ r. P r (step_of image s t).state) (sym step.0) (subst (P reply.Ended) (sym step.1) idle)

-- what holds of the stepping thread and of every other after a step holds of all
pub each_thread : (image : Image) (s : State) (t : ℕ) (P : ℕ → Activity → Type 0) → IsOwn (λ new b. P t b) t (step_of image s t).state →
    ((u : ℕ) (b : Activity) → u ≢ t → activity_at s.threads u ≡ Some b → P u b) → (u : ℕ) (b : Activity) → activity_at (step_of image s t).state.threads u ≡ Some b → P u b
each_thread image s t P own others u b e =
    elim (eqb_tells u t) [
      | inl same ↦ subst (λ n. P n b) (sym same.1) (own b (ap (activity_at (step_of image s t).state.threads) (sym same.1) ∙ e))
      | inr apart ↦ others u b apart.1 (sym (ap (option_and_then activity_of) (step_leaves image s t u apart.1)) ∙ e)
    ]

-- another thread is at what it was at
pub still : (image : Image) (s : State) (t u : ℕ) (b : Activity) → u ≢ t → activity_at s.threads u ≡ Some b → activity_at (step_of image s t).state.threads u ≡ Some b
still image s t u b apart is = ap (option_and_then activity_of) (step_leaves image s t u apart) ∙ is

-- what each computed step keeps holds of what is reached
pub reached_keeps : (image : Image) (count : ℕ) (P : State → Type 0) → P (start_of image count) → ((s : State) (t : ℕ) → P s → P (step_of image s t).state) → (s : State) → IsReached image count s → P s
reached_keeps image count P start keeps s r = lines_keep image count P start (λ u t reply new p h. of_line image u t (λ q v. P v) (keeps u t p) reply new h) s r

-- ---- the start

first_found : (image : Image) (n u : ℕ) (thread : Thread) → slice_get (first_threads image n) u ≡ Some thread → (t : ℕ) × (thread ≡ first_thread image t)
first_found image zero u thread e = cc
first_found image (suc n) u thread e = elim (one_more (first_threads image n) (first_thread image n) thread u e) [ inl before ↦ first_found image n u thread before | inr last ↦ (n, last) ]

-- what a thread is at when it starts
pub first_at : (image : Image) (n u : ℕ) (a : Activity) → activity_at (first_threads image n) u ≡ Some a → (t : ℕ) × (first_activity image t ≡ a)
first_at image n u a e =
    elim (slice_get (first_threads image n) u) as (λ o. slice_get (first_threads image n) u ≡ o → option_and_then activity_of o ≡ Some a → (t : ℕ) × (first_activity image t ≡ a)) [
      | None ↦ λ f k. cc
      | Some thread ↦ λ f k. (let first = first_found image n u thread f in (first.0, same_Some _ _ (sym (ap activity_of first.1) ∙ k)))
    ] refl e
