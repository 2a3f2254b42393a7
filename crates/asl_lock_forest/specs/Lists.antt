-- Machinery of the proofs, not of the promise: what the threads hold, by a list of each thread's own nodes and
-- modes (docs/LOCKS.md, "Lawful holdings"). Sound cites it, and Lines and Serving of asl_lock_queue; its cases stand in
-- tests/cases/asl_lock_forest.
use Rattle.std.specs.Prelude.{ℕ, ◌+◌, List, [], ◌∷◌}
use Rattle.asl_lock_forest.specs.Holding.{Holding, no_holding, Request, grant}

-- what these threads hold, the first of this number
abbrev pub holding_from : ℕ → List Request → Holding
holding_from first [] = no_holding
holding_from first (own ∷ others) = grant (holding_from (first + 1) others) first own

-- what the threads hold, each by its own list
abbrev pub holding_of : List Request → Holding
holding_of lists = holding_from 0 lists
