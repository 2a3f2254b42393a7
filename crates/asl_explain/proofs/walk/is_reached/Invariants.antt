use Rattle.asl_backward_flow.specs.Needed.{region_of}
use Rattle.asl_explain.specs.Chains.{Stays}
use Rattle.asl_explain.specs.Analysed.{read, AreEach}
use Rattle.asl_explain.proofs.walk.is_reached.Given as goal

abbrev pub invariant-loop : goal.invariant-loop
invariant-loop l = record {
  here : Stays (read l.analysis) (region_of l.span.region) l.lock l.from l.pc;
  waiting : AreEach (Stays (read l.analysis) (region_of l.span.region) l.lock l.from) l.waiting.items;
}
