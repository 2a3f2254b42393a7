use Rattle.std.proofs.Common.{◌≡◌, ◌+◌, length, drop}
use Rattle.asl_code.specs.Bodies.{total_len}
use Rattle.asl_code.specs.Rules.{test_of}
use Rattle.asl_code.proofs.Scanning.{first_failing}
use Rattle.asl_code.proofs.places.first_failing.Given as goal

-- the functions that are left give the answer, their bodies are the code that is left, and that begins at `first`
abbrev pub invariant-loop-function : goal.invariant-loop-function
invariant-loop-function l =
    (first_failing (test_of l.rule l.image) l.first (drop l.function-index l.function-items) l.rest ≡ first_failing (test_of l.rule l.image) 0 l.function-items l.image.code)
    × (total_len (drop l.function-index l.function-items) ≡ length l.rest)
    × (l.first + length l.rest ≡ length l.image.code)
