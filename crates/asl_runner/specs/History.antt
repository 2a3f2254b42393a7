-- What a run by workers leaves: a journal, dealt out to the workers as receipts (docs/WORKERS.md, "What a run leaves").
use Rattle.std.specs.Prelude.{◌≡◌, ◌≢◌, ◌<◌, ◌≤◌, ◌%◌, ◌+◌, ◌==◌, ℕ, true, List, [], ◌∷◌, All, length, map, Some, slice_get, if◌then◌else◌}
use Rattle.asl_code.specs.declared.image.Image.{Image}
use Rattle.asl_machine.specs.declared.reply.Reply.{Reply}
use Rattle.asl_machine.specs.declared.reply.Reply.TheVariants as reply
use Rattle.asl_machine.specs.Run.{IsThreadCount}
use Rattle.asl_machine.specs.State.{State}
use Rattle.asl_journal.specs.declared.event.Event.{Event}
use Rattle.asl_journal.specs.declared.event.Receipt.{Receipt}
use Rattle.asl_journal.specs.Journal.{IsJournal, most_events}
use Rattle.asl_journal.specs.Recorded.{has_ended}

-- how many workers there are at most
abbrev pub most_workers : ℕ
most_workers = 8

-- what a run is asked for: as many threads as the program may start with, 1 to 8 workers, and a limit that a journal has
-- room for
pub record IsAsked (image : Image) (count workers limit : ℕ) : Type 0 where
  pub threads : IsThreadCount image count
  pub some : 0 < workers
  pub few : workers ≤ most_workers
  pub short : limit ≤ most_events

-- an event with its place in the journal
pub record Entry : Type 0 where
  pub index : ℕ
  pub thread : ℕ
  pub reply : Reply

-- the entry of an event: its place in the journal, its thread and its reply
abbrev pub entry : ℕ → ℕ → Reply → Entry
entry index thread reply = record { index = index; thread = thread; reply = reply }

-- what a receipt tells of the journal
abbrev pub entry_of : Receipt → Entry
entry_of receipt = entry receipt.index receipt.thread receipt.reply

-- the entries of events that stand in the journal from the index on, as far as their threads are this worker's: worker j has
-- the threads t with t mod workers = j
abbrev pub entries_of : ℕ → ℕ → ℕ → List Event → List Entry
entries_of workers worker index [] = []
entries_of workers worker index (event ∷ events) =
    if (event.thread % workers) == worker then entry index event.thread event.reply ∷ entries_of workers worker (index + 1) events
    else entries_of workers worker (index + 1) events

-- the receipts are the entries of the worker's threads, in the journal's order
abbrev pub IsDealt : ℕ → ℕ → List Event → List Receipt → Type 0
IsDealt workers worker events receipts = map entry_of receipts ≡ entries_of workers worker 0 events

-- each worker has the entries of its threads
pub record AreDealt (workers : ℕ) (events : List Event) (receipts : List (List Receipt)) : Type 0 where
  pub count : length receipts ≡ workers
  pub each : (worker : ℕ) (mine : List Receipt) → slice_get receipts worker ≡ Some mine → IsDealt workers worker events mine

-- the events are a journal of the program with so many threads, and are dealt out to the workers
pub record IsHistory (image : Image) (count workers : ℕ) (events : List Event) (receipts : List (List Receipt)) : Type 0 where
  pub journal : IsJournal image count events
  pub dealt : AreDealt workers events receipts

-- where a receipt says that its thread has ended, it has
abbrev pub AreTrue : State → List Receipt → Type 0
AreTrue s receipts = (n : ℕ) (r : Receipt) → slice_get receipts n ≡ Some r → r.ended ≡ true → has_ended s r.thread ≡ true

-- what each worker's receipts say of threads that have ended is true
abbrev pub AreAllTrue : State → List (List Receipt) → Type 0
AreAllTrue s receipts = (worker : ℕ) (mine : List Receipt) → slice_get receipts worker ≡ Some mine → AreTrue s mine

-- a receipt that says that its thread has ended is the last one of its thread
abbrev pub AreEndsLast : List Receipt → Type 0
AreEndsLast receipts = (n later : ℕ) (r next : Receipt) → slice_get receipts n ≡ Some r → r.ended ≡ true → slice_get receipts later ≡ Some next → next.thread ≡ r.thread → later ≤ n

-- each worker's receipts are so
abbrev pub AreAllEndsLast : List (List Receipt) → Type 0
AreAllEndsLast receipts = (worker : ℕ) (mine : List Receipt) → slice_get receipts worker ≡ Some mine → AreEndsLast mine

-- each thread has ended
abbrev pub HaveEnded : State → ℕ → Type 0
HaveEnded s count = (t : ℕ) → t < count → has_ended s t ≡ true

-- the reply to a step of a thread that had not ended before
abbrev pub WasRunning : Reply → Type 0
WasRunning r = r ≢ reply.Ended

-- no event is of a step of a thread that had ended before
abbrev pub AreRunning : List Event → Type 0
AreRunning events = All (λ event. WasRunning event.reply) events

-- the worker's receipts are the entries of its threads, and say only of threads that have ended that they have
pub record IsRight (workers worker : ℕ) (s : State) (events : List Event) (receipts : List Receipt) : Type 0 where
  pub dealt : IsDealt workers worker events receipts
  pub said : AreTrue s receipts

-- the worker's receipts are not the entries of its threads, or one says that a thread has ended that has not
abbrev pub IsWrong : ℕ → ℕ → State → List Event → List Receipt → Type 0
IsWrong workers worker s events receipts = ¬ IsRight workers worker s events receipts
