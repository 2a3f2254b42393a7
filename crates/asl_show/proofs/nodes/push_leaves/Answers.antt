use Rattle.std.proofs.Common.{arith}
use Rattle.asl_show.proofs.Lines.{none_written, more_written, passed_written, all_counted}
use Rattle.asl_show.proofs.Silent.{silent_object}
use Rattle.asl_show.proofs.nodes.push_leaves.Goals as goal

pub loop-object-init : goal.loop-object-init
loop-object-init c = record {
  within = c.next_number-object.ensures.high;
  written =
      passed_written _ _ _ _ _ _ c.next_number-object.ensures.low c.next_number-object.ensures.high
      (λ k low high. silent_object c.args.machine.now.state _ _ _ _ k c.requires.silent c.next_number-object.ensures.none low high) (none_written _ _ _);
}

pub loop-object-preserved : goal.loop-object-preserved
loop-object-preserved c = record {
  within = c.next_number-object-in-loop-object.ensures.high;
  written =
      passed_written _ _ _ _ _ _ c.next_number-object-in-loop-object.ensures.low c.next_number-object-in-loop-object.ensures.high
      (λ k low high. silent_object c.args.machine.now.state _ _ _ _ k c.requires.silent c.next_number-object-in-loop-object.ensures.none low high)
      (more_written _ _ _ _ _ _ c.loop-object-test.true c.in_ok-push_leaves_of.ensures c.loop-object.invariant.written);
}

pub returns : goal.returns
returns c = all_counted _ _ _ _ _ _ c.objects-objects.ensures.count (omega (arith, c.loop-object-test.false)) c.loop-object.invariant.written
