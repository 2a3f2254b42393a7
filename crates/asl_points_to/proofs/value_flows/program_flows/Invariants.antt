-- the instructions so far
use Rattle.std.proofs.Common.{◌≡◌}
use Rattle.asl_lower.specs.OpenSections.{start_of}
use Rattle.asl_points_to.specs.Flows.{AreFlows}
use Rattle.asl_points_to.proofs.value_flows.program_flows.Given as goal

abbrev pub invariant-loop-number : goal.invariant-loop-number
invariant-loop-number l = record {
  start : l.start ≡ start_of l.lowering.functions l.number;
  flows : AreFlows l.lowering l.start l.flows.items;
}

abbrev pub invariant-loop-pc : goal.invariant-loop-pc
invariant-loop-pc l = AreFlows l.lowering l.pc l.flows.items
