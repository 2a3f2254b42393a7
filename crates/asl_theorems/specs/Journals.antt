-- What a journal tells of the steps of a run, and journals with serial ones.
use Rattle.std.specs.Prelude.{◌≡◌, ◌==◌, ◌++◌, ℕ, List, [], ◌∷◌, map, if◌then◌else◌}
use Rattle.asl_code.specs.declared.image.Image.{Image}
use Rattle.asl_machine.specs.declared.reply.Reply.{Reply}
use Rattle.asl_machine.specs.State.{State}
use Rattle.asl_machine.specs.Run.{start_of}
use Rattle.asl_journal.specs.declared.event.Event.{Event}
use Rattle.asl_journal.specs.Journal.{LeadsTo}
use Rattle.asl_atomicity.specs.Serial.{TakenStep, IsRun, HasSerial, heard}
use Rattle.asl_atomicity.specs.Renamed.{HasSerialUpTo, reply_by}

-- what a journal tells of a step, and of the steps of a run
abbrev pub event_of : TakenStep → Event
event_of step = record { thread = step.thread; reply = step.reply }

-- what a journal tells of the steps of a run, in their order
abbrev pub events_of : List TakenStep → List Event
events_of steps = map event_of steps

-- the steps of a journal: a run by the table to the end, of which these events tell
pub record AreSteps (image : Image) (count : ℕ) (events : List Event) (end : State) (steps : List TakenStep) : Type 0 where
  pub run : IsRun image (start_of image count) steps end
  pub told : events ≡ events_of steps

-- what a thread is told in a journal
abbrev pub told_in : ℕ → List Event → List Reply
told_in thread [] = []
told_in thread (event ∷ events) = (if event.thread == thread then heard event.reply else []) ++ told_in thread events

-- a journal with these steps has a serial one: the steps have a serial run, and its events are a journal that leads to the same end
-- and reports the same to each thread
pub record HasSerialJournal (image : Image) (count : ℕ) (events : List Event) (steps : List TakenStep) (end : State) : Type 0 where
  pub run : HasSerial image count steps end
  pub leads : LeadsTo image count (events_of run.serial) end
  pub told : (thread : ℕ) → told_in thread (events_of run.serial) ≡ told_in thread events

-- the same up to the numbers of objects
pub record HasSerialJournalUpTo (image : Image) (count : ℕ) (events : List Event) (steps : List TakenStep) (end : State) : Type 0 where
  pub run : HasSerialUpTo image count steps end
  pub leads : LeadsTo image count (events_of run.serial) run.serial_end
  pub told : (thread : ℕ) → told_in thread (events_of run.serial) ≡ map (reply_by run.renaming.new) (told_in thread events)
