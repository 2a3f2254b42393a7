use Rattle.std.proofs.Common.{take}
use Rattle.asl_tool.specs.Check.{HasNoSides}
use Rattle.asl_tool.proofs.commands.check.first_zero.Given as goal

abbrev pub invariant-loop-place : goal.invariant-loop-place
invariant-loop-place l = HasNoSides (take l.place l.input)
