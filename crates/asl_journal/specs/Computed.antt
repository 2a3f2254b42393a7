-- Machinery: runs of a schedule by the computed step, from any state on. The law journals_are_computed says that events which go by
-- the instruction table are of such a run, and lead to the state to which that leads.
use Rattle.std.specs.Prelude.{◌≡◌, ℕ, List}
use Rattle.asl_code.specs.declared.image.Image.{Image}
use Rattle.asl_machine.specs.State.{State}
use Rattle.asl_machine.specs.Run.{start_of}
use Rattle.asl_machine.specs.ComputedRun.{replies_of, state_after}
use Rattle.asl_journal.specs.declared.event.Event.{Event}
use Rattle.asl_journal.specs.Journal.{schedule_of, replies_in}

-- the replies of the events are the computed ones of the program's run over their schedule from the state on
abbrev pub GoesBy : Image → State → List Event → Type 0
GoesBy image s events = replies_in events ≡ replies_of image s (schedule_of events)

-- the computed state to which the schedule of the events leads so many threads of the program
abbrev pub state_at : Image → ℕ → List Event → State
state_at image count events = state_after image (start_of image count) (schedule_of events)
