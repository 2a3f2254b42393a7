-- none so far
use Rattle.std.proofs.Common.{ℕ, ◌<◌}
use Rattle.asl_lower.specs.Reach.{IsMarked}
use Rattle.asl_map.proofs.run_functions.next_function.Given as goal

abbrev pub invariant-loop-function : goal.invariant-loop-function
invariant-loop-function l =
    (function : ℕ) → function < l.function → IsMarked l.marks function → IsMarked l.followed function
