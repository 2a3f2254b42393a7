-- What a journal is: the events of a program's run over a schedule, each with the reply of its step (docs/JOURNAL.md,
-- "What a journal is").
use Rattle.std.specs.Prelude.{◌≡◌, ◌<◌, ◌≤◌, ◌⊎◌, ◌++◌, ◌∷◌, [], ℕ, List, length, map, All, slice_get, Some}
use Rattle.asl_code.specs.declared.image.Image.{Image}
use Rattle.asl_code.specs.Verified.{IsVerified}
use Rattle.asl_code.specs.Versions.{newest_threads}
use Rattle.asl_machine.specs.declared.reply.Reply.{Reply}
use Rattle.asl_machine.specs.State.{State}
use Rattle.asl_machine.specs.Run.{IsThreadCount, start_of, RunsBy}
use Rattle.asl_journal.specs.declared.event.Event.{Event}
use Rattle.asl_journal.specs.declared.fault.JournalFault.{JournalFault}
use Rattle.asl_journal.specs.declared.fault.JournalFault.TheVariants.{JournalFull, BadCount, BadThread}

-- how many events a journal has at most
abbrev pub most_events : ℕ
most_events = 16777216

-- the number of threads of a run, and the events in order
pub record Log : Type 0 where
  pub threads : ℕ
  pub events : List Event

-- the same journal with one event more
abbrev pub with_event : Log → Event → Log
with_event log event = record { threads = log.threads; events = log.events ++ event ∷ [] }

-- there are from 1 thread to as many as the newest version has, which is 128
abbrev pub IsCount : ℕ → Type 0
IsCount count = (0 < count) × (count ≤ newest_threads)

-- each event is of a thread that is there
abbrev pub AreThere : ℕ → List Event → Type 0
AreThere count events = All (λ event. event.thread < count) events

-- what every journal keeps: 1 to 128 threads, at most 16,777,216 events, and each of a thread that is there
pub record IsLog (log : Log) : Type 0 where
  pub count : IsCount log.threads
  pub short : length log.events ≤ most_events
  pub there : AreThere log.threads log.events

-- some event is of a thread that is not there
pub record HasStranger (log : Log) : Type 0 where
  pub index : ℕ
  pub event : Event
  pub at : slice_get log.events index ≡ Some event
  pub stranger : log.threads ≤ event.thread

-- why a number of threads and some events are no journal: the first of these that applies
abbrev pub IsNoLog : Log → JournalFault → Type 0
IsNoLog log JournalFull = most_events < length log.events
IsNoLog log BadCount = (length log.events ≤ most_events) × ((log.threads ≡ 0) ⊎ (newest_threads < log.threads))
IsNoLog log BadThread = (length log.events ≤ most_events) × IsCount log.threads × HasStranger log
IsNoLog log fault = ⊥

-- the schedule of events: the threads that stepped, in order
abbrev pub schedule_of : List Event → List ℕ
schedule_of events = map (λ event. event.thread) events

-- the replies of events, in order
abbrev pub replies_in : List Event → List Reply
replies_in events = map (λ event. event.reply) events

-- the events lead from one state to another: each is a step of its thread, with a reply that the instruction table gives it there
abbrev pub LeadsFrom : Image → State → List Event → State → Type 0
LeadsFrom image s events end = RunsBy image s (schedule_of events) (replies_in events) end

-- so many threads of the program may start, and these events lead them to the state
pub record LeadsTo (image : Image) (count : ℕ) (events : List Event) (state : State) : Type 0 where
  pub counted : IsThreadCount image count
  pub runs : LeadsFrom image (start_of image count) events state

-- the events are a journal of the program with so many threads: the image is a program's, each event is of a thread that is
-- there, and the events lead its threads to some state
pub record IsJournal (image : Image) (count : ℕ) (events : List Event) : Type 0 where
  pub verified : IsVerified image
  pub there : AreThere count events
  pub end : State
  pub leads : LeadsTo image count events end
