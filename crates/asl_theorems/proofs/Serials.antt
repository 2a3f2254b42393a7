-- The serial run of a journal's steps is a journal's too.
use Rattle.std.proofs.Common.{◌≡◌, ℕ, List, [], ◌∷◌, ◌++◌, map, refl, ap, sym, ◌∙◌}
use Rattle.std.specs.Prelude.{◌==◌, if◌then◌else◌}
use Rattle.asl_code.specs.declared.image.Image.{Image}
use Rattle.asl_machine.specs.declared.reply.Reply.{Reply}
use Rattle.asl_machine.specs.State.{State}
use Rattle.asl_machine.specs.Run.{IsThreadCount, start_of}
use Rattle.asl_journal.specs.declared.event.Event.{Event}
use Rattle.asl_atomicity.specs.Serial.{TakenStep, HasSerial, told, heard}
use Rattle.asl_atomicity.specs.Renamed.{HasSerialUpTo, reply_by}
use Rattle.asl_theorems.specs.Journals.{events_of, told_in, AreSteps, HasSerialJournal, HasSerialJournalUpTo}
use Rattle.asl_theorems.proofs.Runs.{steps_table}

-- a thread is told in a journal what it is told in the run
told_same : (thread : ℕ) (steps : List TakenStep) → told_in thread (events_of steps) ≡ told thread steps
told_same thread [] = refl
told_same thread (step ∷ steps) = ap (λ (rs : List Reply). (if step.thread == thread then heard step.reply else []) ++ rs) (told_same thread steps)

module _ (image : Image) (count : ℕ) (events : List Event) (end : State) (steps : List TakenStep) (counted : IsThreadCount image count) (are : AreSteps image count events end steps) where
  told_here : (thread : ℕ) → told thread steps ≡ told_in thread events
  told_here thread = sym (told_same thread steps) ∙ sym (ap (told_in thread) are.told)

  pub serial_journal : HasSerial image count steps end → HasSerialJournal image count events steps end
  serial_journal h = record {
    run = h;
    leads = record { counted = counted; runs = steps_table image h.serial (start_of image count) end h.is_run };
    told = λ thread. told_same thread h.serial ∙ h.replies thread ∙ told_here thread;
  }

  pub serial_journal_up_to : HasSerialUpTo image count steps end → HasSerialJournalUpTo image count events steps end
  serial_journal_up_to h = record {
    run = h;
    leads = record { counted = counted; runs = steps_table image h.serial (start_of image count) h.serial_end h.is_run };
    told = λ thread. told_same thread h.serial ∙ h.replies thread ∙ ap (map (reply_by h.renaming.new)) (told_here thread);
  }
