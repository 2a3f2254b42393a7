-- Machinery of the proofs, not of the promise: the workers' seats, and what workers leave (src/starting.rt, src/gathering.rt).
use Rattle.std.specs.Prelude.{◌≡◌, ◌<◌, ℕ, true, List, [], Some, slice_get, get_or}
use Rattle.std.specs.declared.thread.PromisedHandle.{PromisedHandle}
use Rattle.asl_turns.specs.Turn.{Word, Turn}
use Rattle.asl_runner.specs.declared.starting.WorkOf.{WorkOf}
use Rattle.asl_runner.specs.declared.worker.Work.{Work}
use Rattle.asl_runner.specs.Working.{HasLeft}

-- a seat with one pass
abbrev pub seat_of : Word → Turn
seat_of word = record { of = word; left = 1; spent = 0; tickets = [] }

-- each has one pass
abbrev pub AreSeats : Word → List Turn → Type 0
AreSeats word seats = (k : ℕ) (seat : Turn) → slice_get seats k ≡ Some seat → seat ≡ seat_of word

-- the handle of each worker's thread promises what that worker leaves
abbrev pub ArePromised : Word → ℕ → ℕ → List (PromisedHandle Work WorkOf) → Type 0
ArePromised word count workers handles = (k : ℕ) (d : PromisedHandle Work WorkOf) → k < workers
    → ((get_or handles k d).promise.turns.now ≡ word) × ((get_or handles k d).promise.post ≡ record { count = count; workers = workers; worker = k })

-- each of the workers has left what a worker leaves
abbrev pub HaveWorked : Word → ℕ → ℕ → List Work → Type 0
HaveWorked word count workers works = (k : ℕ) (w : Work) → slice_get works k ≡ Some w → HasLeft word count workers k w.seat w.receipts.items w.refused

-- to one of the workers an allocation failed
abbrev pub IsOneRefused : List Work → Type 0
IsOneRefused works = (k : ℕ) × (w : Work) × (slice_get works k ≡ Some w) × (w.refused ≡ true)
