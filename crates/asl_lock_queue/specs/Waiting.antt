-- Who waits, first come first, and who is in whose way (docs/LOCKS.md, "The queue").
use Rattle.std.specs.Prelude.{ℕ, ◌≡◌, ◌≢◌, ◌==◌, ◌⊎◌, Bool, false, not, All, Any, List, [], ◌∷◌, ◌++◌}
use Rattle.std.specs.List.{list_all}
use Rattle.asl_mode_lanes.specs.Mode.{is_compatible, AreCompatible}
use Rattle.asl_lock_forest.specs.declared.node.Node.{Node}
use Rattle.asl_lock_forest.specs.Holding.{Holding, Request, asked, CanGrant}
use Rattle.asl_lock_forest.specs.Request.{IsRefusedRequest}

-- a thread that waits, and what it asks
abbrev pub Waiter : Type 0
Waiter = ℕ × Request

-- the modes that two requests ask go together at every node
abbrev pub GoTogether : Request → Request → Type 0
GoTogether a b = (node : Node) → AreCompatible (asked a node) (asked b node)

-- the modes that two requests ask at some node clash
abbrev pub Clash : Request → Request → Type 0
Clash a b = (node : Node) × (is_compatible (asked a node) (asked b node) ≡ false)

-- nobody is in the way of the thread behind these: what it asks goes with what all others hold, and with what each
-- of those before it asks
pub record MayGo (h : Holding) (before : List Waiter) (thread : ℕ) (request : Request) : Type 0 where
  pub holders : CanGrant h thread request
  pub waiters : All (λ w. GoTogether request w.1) before

-- somebody is in the way of the thread behind these: another one that holds what clashes, or one before it that asks
-- what clashes
abbrev pub IsKept : Holding → List Waiter → ℕ → Request → Type 0
IsKept h before thread request = IsRefusedRequest h thread request ⊎ Any (λ w. Clash request w.1) before

-- each of these, who wait behind those before, has somebody in its way
abbrev pub AreKept : Holding → List Waiter → List Waiter → Type 0
AreKept h before [] = Unit {0}
AreKept h before (w ∷ later) = IsKept h before w.0 w.1 × AreKept h (before ++ w ∷ []) later

-- no thread is among these waiters
abbrev pub IsAbsent : ℕ → List Waiter → Type 0
IsAbsent thread waiters = All (λ w. w.0 ≢ thread) waiters

-- whether the thread is not among these waiters
abbrev pub is_absent : ℕ → List Waiter → Bool
is_absent thread waiters = list_all (λ w. not (w.0 == thread)) waiters

-- no thread waits twice
abbrev pub WaitOnce : List Waiter → Type 0
WaitOnce [] = Unit {0}
WaitOnce (w ∷ later) = IsAbsent w.0 later × WaitOnce later
