-- Machinery of the proofs, not of the promise: receipts that are being compared with the journal (src/compare.rt).
use Rattle.std.specs.Prelude.{◌≡◌, ◌<◌, ◌≤◌, ◌↔◌, ℕ, true, List, Vec, length, map, drop, Some, slice_get, get_or}
use Rattle.std.specs.declared.alloc.Global.{Global}
use Rattle.asl_machine.specs.State.{State}
use Rattle.asl_journal.specs.declared.event.Event.{Event}
use Rattle.asl_journal.specs.declared.event.Receipt.{Receipt}
use Rattle.asl_journal.specs.Recorded.{has_ended}
use Rattle.asl_runner.specs.History.{IsDealt, entries_of, entry, entry_of}

-- where the receipt says that its thread has ended, it has
abbrev pub TellsTruth : State → Receipt → Type 0
TellsTruth s receipt = receipt.ended ≡ true → has_ended s receipt.thread ≡ true

-- the rest of the receipts is dealt from the rest of the events just where all are
abbrev pub IsRestDealt : ℕ → ℕ → List Event → List Receipt → ℕ → ℕ → Type 0
IsRestDealt workers worker events receipts next index =
    (map entry_of (drop next receipts) ≡ entries_of workers worker index (drop index events)) ↔ IsDealt workers worker events receipts

-- the worker's receipts before `next` are those of its events before `index`, and true
pub record HasCome (workers worker : ℕ) (s : State) (events : List Event) (receipts : List Receipt) (next index : ℕ) : Type 0 where
  pub rest : IsRestDealt workers worker events receipts next index
  pub within : next ≤ length receipts
  pub said : (n : ℕ) (r : Receipt) → n < next → slice_get receipts n ≡ Some r → TellsTruth s r

-- each worker's are so, by how many of them are compared
abbrev pub HaveCome : ℕ → State → List Event → List (Vec Receipt Global) → List ℕ → ℕ → Type 0
HaveCome workers s events all next index =
    (worker : ℕ) (mine : Vec Receipt Global) → worker < workers → slice_get all worker ≡ Some mine
    → HasCome workers worker s events mine.items (get_or next worker 0) index

-- the next receipt is that of the event at the index, and true
abbrev pub IsNext : State → List Receipt → ℕ → ℕ → Event → Type 0
IsNext s receipts next index event =
    (receipt : Receipt) × (slice_get receipts next ≡ Some receipt) × (entry_of receipt ≡ entry index event.thread event.reply) × TellsTruth s receipt
