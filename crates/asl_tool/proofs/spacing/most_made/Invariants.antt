use Rattle.std.proofs.Common.{◌≡◌, ◌≤◌, max, drop}
use Rattle.asl_tool.specs.MadeBytes.{most_made}
use Rattle.asl_tool.proofs.spacing.most_made.Given as goal

abbrev pub invariant-loop-instr : goal.invariant-loop-instr
invariant-loop-instr l = record {
  so_far : max l.most (most_made (drop l.instr-index l.code)) ≡ most_made l.code;
  few : l.most ≤ 2088;
}
