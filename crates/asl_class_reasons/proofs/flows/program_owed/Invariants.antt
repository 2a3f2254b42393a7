-- what is owed to the instructions so far
use Rattle.std.proofs.Common.{◌≡◌}
use Rattle.asl_lower.specs.OpenSections.{start_of}
use Rattle.asl_class_reasons.specs.Draft.{AreOwed}
use Rattle.asl_class_reasons.proofs.flows.program_owed.Given as goal

abbrev pub invariant-loop-number : goal.invariant-loop-number
invariant-loop-number l = record {
  start : l.start ≡ start_of l.lowering.functions l.number;
  owed : AreOwed l.lowering l.start l.owed.items;
}

abbrev pub invariant-loop-pc : goal.invariant-loop-pc
invariant-loop-pc l = AreOwed l.lowering l.pc l.owed.items
