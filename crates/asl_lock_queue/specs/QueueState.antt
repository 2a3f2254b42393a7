-- A forest of locks with a queue, as contracts see it (docs/LOCKS.md, "The queue"), and codes of it, by which the logic
-- knows that two of them are distinguished.
use Rattle.std.specs.Prelude.{ℕ, ◌<◌, All, IsTrue, List, []}
use Rattle.std.proofs.Common.{refl}
use Rattle.std.specs.Coded.{Coded, code_by, coded×, coded_ℕ}
use base.Stored.{coded_via, coded_list}
use Rattle.asl_lock_forest.specs.declared.node.Node.{Node}
use Rattle.asl_lock_forest.specs.Node.{node_code}
use Rattle.asl_lock_forest.specs.Keys.{node_same}
use Rattle.asl_lock_forest.specs.Held.{IsForest, coded_mode, coded_holding}
use Rattle.asl_lock_forest.specs.Holding.{Holding, Request, HoldsNothing}
use Rattle.asl_lock_forest.specs.Request.{asks_modes, asks_parents, IsOfClasses}
use Rattle.asl_lock_queue.specs.Order.{is_rising}
use Rattle.asl_lock_queue.specs.Waiting.{Waiter, AreKept, WaitOnce}

-- how many classes and threads there are; how many nodes a request may name with no need of memory; who holds what;
-- and who waits for what, first come first
pub record QueueState : Type 0 where
  pub classes : ℕ
  pub threads : ℕ
  pub room : ℕ
  pub holding : Holding
  pub waiting : List Waiter

-- a request that the queue may be asked: it rises, asks modes, and each with its parent's
pub record IsAskable (classes : ℕ) (request : Request) : Type 0 where
  pub rising : IsTrue (is_rising request)
  pub modes : IsTrue (asks_modes request)
  pub parents : IsTrue (asks_parents request)
  pub classes_there : IsOfClasses classes request

-- what every queue keeps: its holding is a forest's; who waits is a thread that there is, holds nothing, waits once, and
-- has somebody in its way
pub record IsQueue (q : QueueState) : Type 0 where
  pub forest : IsForest (record { classes = q.classes; threads = q.threads; holding = q.holding })
  pub threads_there : All (λ w. w.0 < q.threads) q.waiting
  pub idle : All (λ w. HoldsNothing q.holding w.0) q.waiting
  pub once : WaitOnce q.waiting
  pub askable : All (λ w. IsAskable q.classes w.1) q.waiting
  pub kept : AreKept q.holding [] q.waiting

-- a node as its numbers
abbrev pub coded_node : Coded Node
coded_node = coded_via (coded_list coded_ℕ) node_code node_same

-- a waiter as its number and what it asks
abbrev pub coded_waiter : Coded Waiter
coded_waiter = coded× coded_ℕ (coded_list (coded× coded_node coded_mode))

-- a queue as its counts, its holding and its waiters
abbrev pub coded_queue : Coded QueueState
coded_queue =
    code_by (ℕ × (ℕ × (ℕ × (Holding × List Waiter)))) (coded× coded_ℕ (coded× coded_ℕ (coded× coded_ℕ (coded× coded_holding (coded_list coded_waiter)))))
    (λ q. (q.classes, (q.threads, (q.room, (q.holding, q.waiting)))))
    (λ p. record { classes = p.0; threads = p.1.0; room = p.1.1.0; holding = p.1.1.1.0; waiting = p.1.1.1.1 }) (λ _. refl)
