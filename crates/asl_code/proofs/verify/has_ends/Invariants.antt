use Rattle.std.proofs.Common.{◌≡◌, ◌+◌, true, length, drop}
use Rattle.std.specs.List.{list_all}
use Rattle.asl_code.specs.Bodies.{total_len, bodies_from}
use Rattle.asl_code.specs.Verified.{has_range, has_end}
use Rattle.asl_code.proofs.verify.has_ends.Given as goal

-- the bodies that are left give the answer; they are not empty, and reach from `first` to the end of the code
abbrev pub invariant-loop-function : goal.invariant-loop-function
invariant-loop-function l =
    (list_all (has_end l.code) (bodies_from l.first (drop l.function-index l.function-items)) ≡ list_all (has_end l.code) (bodies_from 0 l.function-items))
    × (list_all has_range (drop l.function-index l.function-items) ≡ true)
    × (l.first + total_len (drop l.function-index l.function-items) ≡ length l.code)
