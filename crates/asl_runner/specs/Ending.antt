-- What a run by workers has come to before its receipts are compared with the journal (docs/WORKERS.md, "What a run leaves").
use Rattle.std.specs.Prelude.{◌≡◌, ◌<◌, ◌≤◌, ◌⊎◌, ◌%◌, ℕ, true, List, length, map, Some, slice_get, sum_by}
use Rattle.asl_code.specs.declared.image.Image.{Image}
use Rattle.asl_journal.specs.declared.event.Receipt.{Receipt}
use Rattle.asl_journal.specs.Journal.{IsJournal, LeadsTo}
use Rattle.asl_runner.specs.History.{AreAllEndsLast, AreRunning}
use Rattle.asl_runner.specs.declared.report.Report.{Report}

-- the receipts of all workers
abbrev pub all_receipts : Report → List (List Receipt)
all_receipts report = map (λ mine. mine.items) report.receipts.items

-- the thread is one of the worker's
pub record IsMine (count workers worker t : ℕ) : Type 0 where
  pub there : t < count
  pub mine : (t % workers) ≡ worker

-- some receipt says that the thread has ended
abbrev pub IsToldEnded : List Receipt → ℕ → Type 0
IsToldEnded receipts t = (n : ℕ) × (r : Receipt) × (slice_get receipts n ≡ Some r) × (r.thread ≡ t) × (r.ended ≡ true)

-- each thread of the worker has a receipt that says that it has ended
abbrev pub AllTold : ℕ → ℕ → ℕ → List Receipt → Type 0
AllTold count workers worker receipts = (t : ℕ) → IsMine count workers worker t → IsToldEnded receipts t

-- each worker was told that its threads have ended
abbrev pub AreAllTold : ℕ → ℕ → List (List Receipt) → Type 0
AreAllTold count workers all = (worker : ℕ) (mine : List Receipt) → slice_get all worker ≡ Some mine → AllTold count workers worker mine

-- how many receipts there are in all
abbrev pub receipts_in : List (List Receipt) → ℕ
receipts_in all = sum_by (λ (mine : List Receipt). length mine) all

-- a journal of the program with the machine after it, and no step in it of a thread that had ended before; as many receipts
-- as tickets, no receipt of a thread after one that says that it has ended, and either the limit is reached or each worker was told that its threads have ended
pub record IsRun (image : Image) (count workers limit : ℕ) (report : Report) : Type 0 where
  pub threads : report.journal.threads ≡ count
  pub journal : IsJournal image count report.journal.events
  pub running : AreRunning report.journal.events
  pub machine : report.machine.image ≡ image
  pub leads : LeadsTo image count report.journal.events report.machine.state
  pub dealers : length (all_receipts report) ≡ workers
  pub receipts : receipts_in (all_receipts report) ≡ report.tickets
  pub short : report.tickets ≤ limit
  pub last : AreAllEndsLast (all_receipts report)
  pub end : AreAllTold count workers (all_receipts report) ⊎ (report.tickets ≡ limit)
