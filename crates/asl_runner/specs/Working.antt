-- Machinery of the proofs, not of the promise: what a worker knows of itself (src/worker.rt), and what is known of those
-- that have been joined (src/gathering.rt).
use Rattle.std.specs.Prelude.{◌≡◌, ◌<◌, ◌⊎◌, ◌+◌, ℕ, Bool, true, false, List, length, Some, slice_get}
use Rattle.asl_code.specs.Versions.{newest_threads}
use Rattle.asl_turns.specs.Turn.{Word, Turn}
use Rattle.asl_journal.specs.declared.event.Receipt.{Receipt}
use Rattle.asl_runner.specs.History.{AreEndsLast, AreAllEndsLast}
use Rattle.asl_runner.specs.Ending.{IsMine, IsToldEnded, AllTold, receipts_in}

-- a worker between two calls: it has its pass and a receipt for each ticket, and each of its threads continues or has a receipt
-- that says that it has ended; of a thread that continues no receipt says so
pub record IsWorking (word : Word) (count workers worker : ℕ) (seat : Turn) (receipts : List Receipt) (going : List Bool) : Type 0 where
  pub of : seat.of ≡ word
  pub left : seat.left ≡ 1
  pub spent : seat.spent ≡ 0
  pub drawn : length receipts ≡ length seat.tickets
  pub room : length going ≡ newest_threads
  pub each : (t : ℕ) → IsMine count workers worker t → (slice_get going t ≡ Some true) ⊎ IsToldEnded receipts t
  pub untold : (t : ℕ) → slice_get going t ≡ Some true → ¬ IsToldEnded receipts t
  pub last : AreEndsLast receipts

-- the seat has one pass, left or spent
pub record HasPass (word : Word) (seat : Turn) : Type 0 where
  pub of : seat.of ≡ word
  pub passes : seat.left + seat.spent ≡ 1

-- a worker that has stopped with nothing refused to it
pub record HasStopped (word : Word) (count workers worker : ℕ) (seat : Turn) (receipts : List Receipt) : Type 0 where
  pub pass : HasPass word seat
  pub drawn : length receipts ≡ length seat.tickets
  pub last : AreEndsLast receipts
  pub why : (0 < seat.spent) ⊎ AllTold count workers worker receipts

-- a worker that has its pass left, so that it has not found the limit, and a thread of which it was not told that it has ended
pub record HasWork (word : Word) (count workers worker : ℕ) (seat : Turn) (receipts : List Receipt) : Type 0 where
  pub pass : HasPass word seat
  pub unspent : seat.spent ≡ 0
  pub thread : ℕ
  pub mine : IsMine count workers worker thread
  pub untold : ¬ IsToldEnded receipts thread

-- a worker to which an allocation failed has work left
unfoldable pub WasRefused : Word → ℕ → ℕ → ℕ → Turn → List Receipt → Type 0
WasRefused word count workers worker seat receipts = HasWork word count workers worker seat receipts

-- what a worker leaves: its seat with its pass, and what it knows when it stops, or when an allocation of it failed
pub record HasLeft (word : Word) (count workers worker : ℕ) (seat : Turn) (receipts : List Receipt) (refused : Bool) : Type 0 where
  pub pass : HasPass word seat
  pub stopped : refused ≡ false → HasStopped word count workers worker seat receipts
  pub wanted : refused ≡ true → WasRefused word count workers worker seat receipts

-- workers that have been joined, the first ones, with nothing refused to any: as many receipts as tickets, no receipt of a
-- thread after one that says that it has ended, and each has all its threads told ended, or a pass is spent
pub record AreJoined (count workers : ℕ) (seat : Turn) (all : List (List Receipt)) : Type 0 where
  pub drawn : receipts_in all ≡ length seat.tickets
  pub last : AreAllEndsLast all
  pub why : (worker : ℕ) (mine : List Receipt) → slice_get all worker ≡ Some mine → (0 < seat.spent) ⊎ AllTold count workers worker mine
