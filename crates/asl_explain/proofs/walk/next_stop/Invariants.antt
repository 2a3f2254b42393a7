use Rattle.std.proofs.Common.{◌≤◌}
use Rattle.asl_backward_flow.specs.Needed.{region_of}
use Rattle.asl_explain.specs.Chains.{Stays}
use Rattle.asl_explain.specs.Analysed.{read}
use Rattle.asl_explain.proofs.walk.next_stop.Given as goal

abbrev pub invariant-loop-pc : goal.invariant-loop-pc
invariant-loop-pc l = record {
  stays : Stays (read l.analysis) (region_of l.fn.span.region) l.lock l.from l.pc;
  first : l.fn.span.first ≤ l.pc;
}
