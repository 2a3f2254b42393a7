-- A machine whose steps are written down (docs/JOURNAL.md, "A machine that writes it down").
use Rattle.std.specs.Prelude.{◌≡◌, ◌≤◌, ◌-◌, ℕ, Bool, List, length, min, is_none}
use Rattle.asl_code.specs.declared.image.Image.{Image}
use Rattle.asl_machine.specs.State.{State, activity_at}
use Rattle.asl_machine.specs.View.{Configuration}
use Rattle.asl_journal.specs.declared.event.Event.{Event}
use Rattle.asl_journal.specs.declared.event.Receipt.{Receipt}
use Rattle.asl_journal.specs.Journal.{Log, IsCount, IsJournal, LeadsTo, most_events}

-- a program, the state that its threads are in, how many these are and what they did, and for how many events more there is capacity
pub record Recorded : Type 0 where
  pub image : Image
  pub state : State
  pub count : ℕ
  pub events : List Event
  pub spare : ℕ

-- the machine: the program in its state
abbrev pub machine_of : Recorded → Configuration
machine_of r = record { image = r.image; state = r.state }

-- the journal: the number of threads and the events
abbrev pub log_of : Recorded → Log
log_of r = record { threads = r.count; events = r.events }

-- the program, its state, the number of threads and the events are the same; of the capacity nothing is said
pub record IsUnchanged (old new : Recorded) : Type 0 where
  pub image : new.image ≡ old.image
  pub state : new.state ≡ old.state
  pub count : new.count ≡ old.count
  pub events : new.events ≡ old.events

-- the event of a receipt
abbrev pub event_of : Receipt → Event
event_of receipt = record { thread = receipt.thread; reply = receipt.reply }

-- whether the thread has ended in this state
abbrev pub has_ended : State → ℕ → Bool
has_ended s t = is_none (activity_at s.threads t)

-- The events are a journal of the machine's program, and lead its threads to the machine's state. There are no more events than
-- a journal has. Machinery of the type: contracts speak of the parts.
pub record Fits (machine : Configuration) (count : ℕ) (events : List Event) : Type 0 where
  pub threads : length machine.state.threads ≡ count
  pub counted : IsCount count
  pub short : length events ≤ most_events
  pub journal : IsJournal machine.image count events
  pub leads : LeadsTo machine.image count events machine.state

-- for how many events more there is capacity, never more than the limit leaves
abbrev pub spare_of : ℕ → ℕ → ℕ
spare_of capacity len = min capacity most_events - len
