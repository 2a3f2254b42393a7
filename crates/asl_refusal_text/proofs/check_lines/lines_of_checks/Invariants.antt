use Rattle.std.proofs.Common.{◌≡◌, take}
use Rattle.asl_refusal_text.specs.FaultText.{check_lines}
use Rattle.asl_refusal_text.proofs.check_lines.lines_of_checks.Given as goal

abbrev pub invariant-loop-fault : goal.invariant-loop-fault
invariant-loop-fault l = l.lines.items ≡ check_lines (take l.fault-index l.faults)
