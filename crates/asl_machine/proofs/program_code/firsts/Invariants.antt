use Rattle.std.proofs.Common.{◌≡◌, ◌+◌, ◌++◌, drop}
use Rattle.asl_code.specs.Bodies.{total_len}
use Rattle.asl_machine.specs.Ready.{firsts_from}
use Rattle.asl_machine.proofs.program_code.firsts.Given as goal

abbrev pub invariant-loop-function : goal.invariant-loop-function
invariant-loop-function l =
    (l.firsts.items ++ firsts_from l.first (drop l.function-index l.functions) ≡ firsts_from 0 l.functions)
    × (l.first + total_len (drop l.function-index l.functions) ≡ total_len l.functions)
