-- What a release does to a queue: who goes, who stays, and what is held then (docs/LOCKS.md, "The queue").
use Rattle.std.specs.Prelude.{ℕ, ◌≡◌, ◌==◌, not, ◌⊎◌, All, List, [], ◌∷◌, ◌++◌, filter, map}
use Rattle.asl_lock_forest.specs.declared.node.Node.{Node}
use Rattle.asl_lock_forest.specs.Holding.{Holding, held, asked, grant, release}
use Rattle.asl_lock_queue.specs.Waiting.{Waiter, GoTogether}
use Rattle.asl_lock_queue.specs.QueueState.{QueueState}

-- these waiters but for the thread
abbrev pub without : ℕ → List Waiter → List Waiter
without thread waiters = filter (λ w. not (w.0 == thread)) waiters

-- the holding in which these have got what they asked, one after the other
abbrev pub granted : Holding → List Waiter → Holding
granted h [] = h
granted h (w ∷ later) = granted (grant h w.0 w.1) later

-- each of the waiters stays or goes, in order; who goes asks nothing that clashes with what one asks who came earlier
-- and stays. The first list is of those who came earlier and stay
abbrev pub IsDealt : List Waiter → List Waiter → List Waiter → List Waiter → Type 0
IsDealt before [] staying going = (staying ≡ []) × (going ≡ [])
IsDealt before (w ∷ later) staying going =
    ((rest : List Waiter) × (staying ≡ w ∷ rest) × IsDealt (before ++ w ∷ []) later rest going)
    ⊎ ((rest : List Waiter) × (going ≡ w ∷ rest) × All (λ v. GoTogether w.1 v.1) before × IsDealt before later staying rest)

-- the thread has given back all that it held and its place in the queue; those of these numbers, in order, went
pub record IsServed (old : QueueState) (thread : ℕ) (numbers : List ℕ) (new : QueueState) : Type 0 where
  pub going : List Waiter
  pub names : numbers ≡ map (λ w. w.0) going
  pub dealt : IsDealt [] (without thread old.waiting) new.waiting going
  pub holding : new.holding ≡ granted (release old.holding thread) going
  pub holds : All (λ w. (node : Node) → held new.holding w.0 node ≡ asked w.1 node) going
