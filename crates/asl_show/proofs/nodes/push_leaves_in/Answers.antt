use Rattle.std.proofs.Common.{arith}
use Rattle.asl_show.proofs.Lines.{none_written, more_written, passed_written, all_counted}
use Rattle.asl_show.proofs.Silent.{silent_cell}
use Rattle.asl_show.proofs.nodes.push_leaves_in.Goals as goal

pub loop-offset-init : goal.loop-offset-init
loop-offset-init c = record {
  within = c.next_number-offset.ensures.high;
  written =
      passed_written _ _ _ _ _ _ c.next_number-offset.ensures.low c.next_number-offset.ensures.high
      (λ k low high. silent_cell _ _ _ _ _ _ k c.requires.silent c.next_number-offset.ensures.none low high) (none_written _ _ _);
}

pub loop-offset-preserved : goal.loop-offset-preserved
loop-offset-preserved c = record {
  within = c.next_number-offset-in-loop-offset.ensures.high;
  written =
      passed_written _ _ _ _ _ _ c.next_number-offset-in-loop-offset.ensures.low c.next_number-offset-in-loop-offset.ensures.high
      (λ k low high. silent_cell _ _ _ _ _ _ k c.requires.silent c.next_number-offset-in-loop-offset.ensures.none low high)
      (more_written _ _ _ _ _ _ c.loop-offset-test.true c.in_ok-push_at.ensures c.loop-offset.invariant.written);
}

pub returns : goal.returns
returns c = all_counted _ _ _ _ _ _ c.cells-cells.ensures.count (omega (arith, c.loop-offset-test.false)) c.loop-offset.invariant.written
