-- A step of a thread that has not ended is no step of one that had.
use Rattle.std.proofs.Common.{◌≡◌, ℕ, ◌++◌, true, false, List, [], ◌∷◌, length, None, Some, slice_get, Result, Ok, Err, IfOk, OnErr, refl, ap, sym, ◌∙◌, subst}
use Rattle.std.specs.Prelude.{is_none, option_and_then}
use Rattle.std.proofs.lemmas.List.Elements.{All-push}
use Rattle.asl_code.specs.declared.image.Image.{Image}
use Rattle.asl_code.specs.declared.instr.Instr.{Instr}
use Rattle.asl_code.specs.declared.instr.Instr.TheVariants as instr
use Rattle.asl_machine.specs.declared.reply.Reply.{Reply}
use Rattle.asl_machine.specs.declared.reply.Reply.TheVariants as reply
use Rattle.asl_machine.specs.State.{Thread, Running, Done, Failed, State, activity_of}
use Rattle.asl_machine.specs.Step.{At, Line, StepOf, Step}
use Rattle.asl_journal.specs.declared.event.Event.{Event}
use Rattle.asl_journal.specs.declared.event.Receipt.{Receipt}
use Rattle.asl_journal.specs.declared.fault.JournalFault.{JournalFault}
use Rattle.asl_journal.specs.Recorded.{Recorded, IsUnchanged, event_of, has_ended}
use Rattle.asl_runner.specs.History.{AreRunning, WasRunning}

-- no line of the table answers that the thread had ended
line_runs : (at : At) (i : Instr) (new : State) → Line at i reply.Ended new → ⊥
line_runs at (instr.Jump target) new h = h
line_runs at i new h = absurd h

was_running : (image : Image) (s : State) (t : ℕ) (r : Reply) (new : State) → Step image s t r new → has_ended s t ≡ false → WasRunning r
was_running image s t r new step runs =
    elim (slice_get s.threads t) as (λ o. slice_get s.threads t ≡ o → StepOf image s t o r new → WasRunning r) [
      | None ↦ λ is h. absurd h
      | Some thread ↦ λ is h. by_thread thread is h
    ] refl step
  where
    by_thread : (thread : Thread) → slice_get s.threads t ≡ Some thread → StepOf image s t (Some thread) r new → WasRunning r
    by_thread (Running a) is h e =
        line_runs (record { image = image; state = s; thread = t; activity = a }) h.0 new (subst (λ x. Line (record { image = image; state = s; thread = t; activity = a }) h.0 x new) e h.2)
    by_thread (Done v) is h e = let no : true ≡ false = sym (ap (λ o. is_none (option_and_then activity_of o)) is) ∙ runs in cc
    by_thread (Failed v) is h e = let no : true ≡ false = sym (ap (λ o. is_none (option_and_then activity_of o)) is) ∙ runs in cc

-- a journal with a step more of a thread that has not ended
pub still_running : (old new : Recorded) (t : ℕ) (r : Result Receipt JournalFault) → has_ended old.state t ≡ false → IfOk r (λ receipt. new.events ≡ old.events ++ event_of receipt ∷ [])
    → IfOk r (λ receipt. Step old.image old.state t receipt.reply new.state) → OnErr r (IsUnchanged old new) → AreRunning old.events → AreRunning new.events
still_running old new t (Ok receipt) runs events step same running =
    subst AreRunning (sym events)
    (All-push (λ (e : Event). WasRunning e.reply) old.events (event_of receipt) running (was_running old.image old.state t receipt.reply new.state step runs))
still_running old new t (Err fault) runs events step same running = subst AreRunning (sym same.events) running
