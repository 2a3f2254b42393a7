-- Each step keeps fresh objects apart: each kind of line in the table does.
use Rattle.std.proofs.Common.{◌≡◌, ◌≢◌, ℕ, Some, slice_get, refl, ap, sym, subst, ◌∷◌}
use Rattle.std.specs.Prelude.{option_and_then}
use Rattle.std.proofs.lemmas.Option.{slice_get_within}
use Rattle.asl_code.specs.declared.image.Image.{Image}
use Rattle.asl_code.specs.declared.value.Value.{Value}
use Rattle.asl_code.specs.declared.instr.Instr.{Instr}
use Rattle.asl_lock_forest.specs.declared.node.Node.{Node}
use Rattle.asl_lock_forest.specs.Holding.{Holding, held, grant, release}
use Rattle.asl_lock_forest.proofs.Laws.{held_grant_other, held_release_other}
use Rattle.asl_machine.specs.declared.reply.Reply.{Reply}
use Rattle.asl_machine.specs.State.{Activity, Running, Done, State, activity_of}
use Rattle.asl_machine.specs.Calls.{with_register}
use Rattle.asl_machine.specs.WellFormed.{SatisfiesInvariant}
use Rattle.asl_machine.specs.Fresh.{IsFreshFor, AllElsewhere, AreApart}
use Rattle.asl_machine.specs.Step.{Step, after, advanced, advanced_with, going_on, called, returned, left_last}
use Rattle.asl_machine.proofs.ValueLines.{at_of}
use Rattle.asl_machine.proofs.LineKinds.{Kind, Setting, Going, Storing, Making, Calling, Returning, Ending, Entering, Waiting, Leaving, Failing, StepKind, Over, Does, step_kind}
use Rattle.asl_machine.proofs.Unknown.{setting_elsewhere, calling_elsewhere, returning_elsewhere}
use Rattle.asl_machine.proofs.ApartTurns.{IsTurn, ThreadElsewhere, elsewhere, unknown, runs_on, left_none, goes, fails}
use Rattle.asl_machine.proofs.ApartHeaps.{stores, makes}

module _ {image : Image} {s : State} {t : ℕ} {a : Activity} (turn : IsTurn image s t a) where
  -- it runs on over the same objects, with its fresh objects
  on : (b : Activity) (new : State) → b.fresh ≡ a.fresh → (b.depth ≡ 0 → a.depth ≡ 0) → ((u o : ℕ) → u ≢ t → IsFreshFor s u o → AllElsewhere o (b.top ∷ b.below)) → new ≡ after s t (Running b) s.objects s.holding → AreApart image new
  on b new same shallow away e = subst (AreApart image) (sym e) (runs_on turn b same shallow away)

  -- its last frame ends, and it enters and leaves the section: it has no fresh object
  ends : (v : Value) (new : State) → new ≡ after s t (Done v) s.objects s.holding → AreApart image new
  unfolding ThreadElsewhere
  ends v new e = subst (AreApart image) (sym e) (left_none turn (Done v) s.holding refl (λ u node apart. refl) (λ u o apart g b k. cc))

  enters : (holding : Holding) (new : State) → a.depth ≡ 0 → ((u : ℕ) (node : Node) → u ≢ t → held holding u node ≡ held s.holding u node) → new ≡ after s t (Running (going_on a 1 (advanced a.top))) s.objects holding → AreApart image new
  unfolding ThreadElsewhere
  enters holding new outside same e =
      subst (AreApart image) (sym e)
      (left_none turn (Running (going_on a 1 (advanced a.top))) holding (turn.apart.outside t a turn.is outside) same
      (λ u o apart f b k. let x : going_on a 1 (advanced a.top) ≡ b = cc in subst (λ (d : Activity). AllElsewhere o (d.top ∷ d.below)) x (elsewhere turn u o apart f)))

  leaves : (new : State) → new ≡ after s t (Running (left_last a)) s.objects (release s.holding t) → AreApart image new
  unfolding ThreadElsewhere
  leaves new e =
      subst (AreApart image) (sym e)
      (left_none turn (Running (left_last a)) (release s.holding t) refl (λ u node apart. held_release_other s.holding t u node apart)
      (λ u o apart f b k. let x : left_last a ≡ b = cc in subst (λ (d : Activity). AllElsewhere o (d.top ∷ d.below)) x (elsewhere turn u o apart f)))

  -- each kind of line
  kind_apart : (i : Instr) (r : Reply) (new : State) → slice_get image.code a.top.pc ≡ Some i → Kind (at_of image s t a) i r new → AreApart image new
  kind_apart i r new here (Setting to v comes e) =
      on (going_on a a.depth (advanced_with to v a.top)) new refl (λ z. z) (λ u o apart f. setting_elsewhere turn.sound turn.is (unknown turn u o apart f) i to v here comes) e
  kind_apart i r new here (Going depth target deep e) = goes turn depth target new deep e
  kind_apart i r new here (Storing address from same ran e) = stores turn address from e.cell e.value new e.reads_address e.reads_value e.allowed e.goes_on
  kind_apart i r new here (Making to cells class same ran e) = makes turn to cells class new e.makes
  kind_apart i r new here (Calling to first g e) =
      on (called image a to first g) new refl (λ z. z) (λ u o apart f. calling_elsewhere turn.sound turn.is (unknown turn u o apart f) to first g) e.calls
  kind_apart i r new here (Returning from e) =
      on (returned a (with_register e.to e.value e.caller) e.others) new refl (λ z. z)
      (λ u o apart f. returning_elsewhere turn.sound turn.is (unknown turn u o apart f) from e.to e.caller e.others e.value e.waiting e.reads_value) e.returns
  kind_apart i r new here (Ending from e) = ends e.value new e.ends
  kind_apart i r new here (Entering list same ran e) = enters (grant s.holding t e.request) new e.asks.outside (λ u node apart. held_grant_other s.holding t e.request u node apart) e.goes_on
  kind_apart i r new here (Waiting list e) = subst (AreApart image) (sym e.same) turn.apart
  kind_apart i r new here (Leaving same ran e) = leaves new e.leaves
  kind_apart i r new here (Failing f same e) = fails turn f new e

-- each step of a verified program keeps fresh objects apart
pub step_apart : (image : Image) (s : State) (t : ℕ) (r : Reply) (new : State) → SatisfiesInvariant image s → AreApart image s → Step image s t r new → AreApart image new
step_apart image s t r new sound fr step = by_kind (step_kind image s t r new step)
  where
    by_kind : StepKind image s t r new → AreApart image new
    by_kind (Over e) = subst (AreApart image) (sym e) fr
    by_kind (Does a i is here kind) =
        let turn : IsTurn image s t a = record { sound = sound; apart = fr; there = slice_get_within s.threads t (Running a) is; is = ap (option_and_then activity_of) is } in
        kind_apart turn i r new here kind
