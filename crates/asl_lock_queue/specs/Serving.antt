-- Machinery of the proofs, not of the promise: how far a line has been served (docs/LOCKS.md, "The queue").
use Rattle.std.specs.Prelude.{ℕ, ◌≡◌, All, List, [], ◌∷◌, ◌++◌, map}
use Rattle.asl_lock_forest.specs.declared.node.Node.{Node}
use Rattle.asl_lock_forest.specs.Holding.{Holding, held, Request, asked}
use Rattle.asl_lock_forest.specs.Lists.{holding_of}
use Rattle.asl_lock_queue.specs.Waiting.{Waiter, AreKept}
use Rattle.asl_lock_queue.specs.Served.{IsDealt, granted}
use Rattle.asl_lock_queue.specs.Lines.{waiting_of, IsOut, AreLined}

-- of these waiters the front of the line stays, those of these numbers have gone, and the back is still to be looked at;
-- at first the holding was this one
pub record IsServing (classes threads : ℕ) (first : Holding) (waiters : List Waiter) (holders wanted : List Request) (front back : List ℕ) (numbers : List ℕ) : Type 0 where
  pub lined : AreLined classes threads holders wanted (front ++ back)
  pub kept : AreKept (holding_of holders) [] (waiting_of wanted front)
  pub going : List Waiter
  pub names : numbers ≡ map (λ w. w.0) going
  pub holding : holding_of holders ≡ granted first going
  pub dealt : (staying gone : List Waiter) → IsDealt (waiting_of wanted front) (waiting_of wanted back) staying gone
      → IsDealt [] waiters (waiting_of wanted front ++ staying) (going ++ gone)
  pub holds : All (λ w. (node : Node) → held (holding_of holders) w.0 node ≡ asked w.1 node) going
  pub apart : All (λ w. IsOut w.0 (front ++ back)) going

-- a line has been served: those of these numbers went
pub record IsLineServed (classes threads : ℕ) (first : Holding) (waiters : List Waiter) (holders wanted : List Request) (line : List ℕ) (numbers : List ℕ) : Type 0 where
  pub lined : AreLined classes threads holders wanted line
  pub kept : AreKept (holding_of holders) [] (waiting_of wanted line)
  pub going : List Waiter
  pub names : numbers ≡ map (λ w. w.0) going
  pub holding : holding_of holders ≡ granted first going
  pub dealt : IsDealt [] waiters (waiting_of wanted line) going
  pub holds : All (λ w. (node : Node) → held (holding_of holders) w.0 node ≡ asked w.1 node) going
