use Rattle.std.proofs.Common.{arith}
use Rattle.asl_show.proofs.Lines.{none_written, more_written, passed_written, all_written}
use Rattle.asl_show.proofs.Silent.{silent_class}
use Rattle.asl_show.proofs.nodes.push_classes.Goals as goal

pub loop-class-init : goal.loop-class-init
loop-class-init c = record {
  within = c.next_number-class.ensures.high;
  written =
      passed_written _ _ _ _ _ _ c.next_number-class.ensures.low c.next_number-class.ensures.high
      (λ k low high. silent_class _ _ _ _ k c.requires.silent c.next_number-class.ensures.none low high) (none_written _ _ _);
}

pub loop-class-preserved : goal.loop-class-preserved
loop-class-preserved c = record {
  within = c.next_number-class-in-loop-class.ensures.high;
  written =
      passed_written _ _ _ _ _ _ c.next_number-class-in-loop-class.ensures.low c.next_number-class-in-loop-class.ensures.high
      (λ k low high. silent_class _ _ _ _ k c.requires.silent c.next_number-class-in-loop-class.ensures.none low high)
      (more_written _ _ _ _ _ _ c.loop-class-test.true c.in_ok-push_at.ensures c.loop-class.invariant.written);
}

pub returns : goal.returns
returns c = all_written _ _ _ _ _ (omega (arith, c.loop-class-test.false)) c.loop-class.invariant.written
