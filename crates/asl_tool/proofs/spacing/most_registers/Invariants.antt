use Rattle.std.proofs.Common.{◌≡◌, max, drop}
use Rattle.asl_tool.specs.Spacing.{most_registers}
use Rattle.asl_tool.proofs.spacing.most_registers.Given as goal

abbrev pub invariant-loop-function : goal.invariant-loop-function
invariant-loop-function l = max l.most (most_registers (drop l.function-index l.functions)) ≡ most_registers l.functions
