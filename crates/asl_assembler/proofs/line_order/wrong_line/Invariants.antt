use Rattle.std.proofs.Common.{◌+◌, ◌≤◌, length}
use Rattle.asl_assembler.proofs.Turns.{AtTurn}
use Rattle.asl_assembler.proofs.line_order.wrong_line.Given as goal

-- what is left gives what the whole text gives
abbrev pub invariant-loop-rest : goal.invariant-loop-rest
invariant-loop-rest l = record {
  at : AtTurn l.turn l.number l.rest l.text;
  counted : l.number + length l.rest ≤ length l.text;
}

abbrev pub decreases-loop-rest : goal.decreases-loop-rest
decreases-loop-rest l = length l.rest
