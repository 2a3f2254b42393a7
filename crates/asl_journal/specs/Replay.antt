-- Where events are no journal of a program (docs/JOURNAL.md, "Replay").
use Rattle.std.specs.Prelude.{◌≡◌, ◌≢◌, ◌<◌, ◌≤◌, ℕ, List, take, slice_get, Some}
use Rattle.asl_code.specs.Verified.{IsVerified}
use Rattle.asl_code.specs.Versions.{most_threads}
use Rattle.asl_code.specs.declared.image.Image.{Image}
use Rattle.asl_machine.specs.declared.reply.Reply.{Reply}
use Rattle.asl_machine.specs.State.{State}
use Rattle.asl_machine.specs.Step.{Step}
use Rattle.asl_machine.specs.WellFormed.{MayWantMemory}
use Rattle.asl_journal.specs.declared.event.Event.{Event}
use Rattle.asl_journal.specs.declared.fault.JournalFault.{JournalFault}
use Rattle.asl_journal.specs.declared.fault.JournalFault.TheVariants.{BadCount, Differs, OutOfMemory}
use Rattle.asl_journal.specs.Journal.{Log, LeadsFrom, LeadsTo}

-- The first event that differs from the program's run by so many threads: those before it lead to a state, and there the
-- instruction table gives a step of its thread another reply.
pub record DiffersAt (image : Image) (count : ℕ) (events : List Event) (index : ℕ) : Type 0 where
  pub verified : IsVerified image
  pub event : Event
  pub at : slice_get events index ≡ Some event
  pub state : State
  pub before : LeadsTo image count (take index events) state
  pub reply : Reply
  pub new : State
  pub step : Step image state event.thread reply new
  pub differs : event.reply ≢ reply

-- The first event that differs from the program's run from a state on: those before it lead to another state, and there the
-- instruction table gives a step of its thread another reply.
pub record DiffersFrom (image : Image) (s : State) (events : List Event) (index : ℕ) : Type 0 where
  pub event : Event
  pub at : slice_get events index ≡ Some event
  pub state : State
  pub before : LeadsFrom image s (take index events) state
  pub reply : Reply
  pub new : State
  pub step : Step image state event.thread reply new
  pub differs : event.reply ≢ reply

-- the events before this one lead from the state to another, in which a step of its thread may want memory: that it, or a later one,
-- differs is then not known
pub record MayStopAt (image : Image) (s : State) (events : List Event) (index : ℕ) : Type 0 where
  pub event : Event
  pub at : slice_get events index ≡ Some event
  pub state : State
  pub before : LeadsFrom image s (take index events) state
  pub wants : MayWantMemory image state event.thread

-- why events were not followed from a state: the first that differs, or lack of memory
abbrev pub IsFollowFault : Image → State → List Event → JournalFault → Type 0
IsFollowFault image s events (Differs index) = DiffersFrom image s events index
IsFollowFault image s events OutOfMemory = Unit {0}
IsFollowFault image s events fault = ⊥

-- why a program that may start with so many threads does not run as the journal says: an event differs, or memory is wanted
abbrev pub IsEventFault : Image → Log → JournalFault → Type 0
IsEventFault image log (Differs index) = DiffersAt image log.threads log.events index
IsEventFault image log OutOfMemory = Unit {0}
IsEventFault image log fault = ⊥

-- why a journal is not replayed: the program may not start with so many threads; else that of an event
abbrev pub IsReplayFault : Image → Log → JournalFault → Type 0
IsReplayFault image log BadCount = most_threads image.version < log.threads
IsReplayFault image log fault = (log.threads ≤ most_threads image.version) × IsEventFault image log fault
