-- Machinery of the proofs, not of the promise: a queue by a list for each thread of what it holds, another of what it
-- wants, and the line of the threads that wait (docs/LOCKS.md, "The queue").
use Rattle.std.specs.Prelude.{ℕ, ◌≡◌, ◌≢◌, ◌<◌, ◌≤◌, All, IsTrue, List, [], ◌∷◌, ◌++◌, map, length, slice_index_or, vec_capacity}
use Rattle.asl_lock_forest.specs.declared.node.Node.{Node}
use Rattle.asl_lock_forest.specs.Held.{IsForest}
use Rattle.asl_lock_forest.specs.Holding.{Request, asked}
use Rattle.asl_lock_forest.specs.Lists.{holding_of}
use Rattle.asl_lock_queue.specs.declared.seats.Seats.{Seats}
use Rattle.asl_lock_queue.specs.Order.{is_rising}
use Rattle.asl_lock_queue.specs.Waiting.{Waiter, AreKept}
use Rattle.asl_lock_queue.specs.QueueState.{IsAskable}

-- what the thread wants
abbrev pub waiter : List Request → ℕ → Waiter
waiter wanted thread = (thread, slice_index_or wanted thread [])

-- who waits for what
abbrev pub waiting_of : List Request → List ℕ → List Waiter
waiting_of wanted line = map (waiter wanted) line

-- the thread is not in the line
abbrev pub IsOut : ℕ → List ℕ → Type 0
IsOut thread line = All (λ u. u ≢ thread) line

-- no thread is in the line twice
abbrev pub IsOnce : List ℕ → Type 0
IsOnce [] = Unit {0}
IsOnce (t ∷ later) = IsOut t later × IsOnce later

-- the lists are of one queue, but that somebody in the line may go
pub record AreLined (classes threads : ℕ) (held wanted : List Request) (line : List ℕ) : Type 0 where
  pub forest : IsForest (record { classes = classes; threads = threads; holding = holding_of held })
  pub held_there : length held ≡ threads
  pub wanted_there : length wanted ≡ threads
  pub rising : All (λ r. IsTrue (is_rising r)) held
  pub threads_there : All (λ t. t < threads) line
  pub idle : All (λ t. slice_index_or held t [] ≡ []) line
  pub once : IsOnce line
  pub askable : All (λ t. IsAskable classes (slice_index_or wanted t [])) line
  pub unasked : (t : ℕ) → IsOut t line → slice_index_or wanted t [] ≡ []

-- what each thread holds, and what each wants
abbrev pub held_of : Seats → List Request
held_of seats = map (λ v. v.items) seats.held.items

-- what each thread wants
abbrev pub wanted_of : Seats → List Request
wanted_of seats = map (λ v. v.items) seats.wanted.items

-- who waits for what
abbrev pub waiters_of : Seats → List Waiter
waiters_of seats = waiting_of (wanted_of seats) seats.line.items

-- the lists are of one queue, but that somebody in the line may go
abbrev pub IsLined : Seats → Type 0
IsLined seats = AreLined seats.classes seats.threads (held_of seats) (wanted_of seats) seats.line.items

-- each list has room for so many nodes, and the line for all threads
pub record HasRoom (seats : Seats) : Type 0 where
  pub held : All (λ v. seats.room ≤ vec_capacity v) seats.held.items
  pub wanted : All (λ v. seats.room ≤ vec_capacity v) seats.wanted.items
  pub line : seats.threads ≤ vec_capacity seats.line

-- what the fields of every queue keep
pub record IsSound (seats : Seats) : Type 0 where
  pub lined : IsLined seats
  pub kept : AreKept (holding_of (held_of seats)) [] (waiters_of seats)
  pub room : HasRoom seats
