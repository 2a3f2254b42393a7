use Rattle.std.proofs.Common.{IfSome}
use Rattle.asl_diagnose.specs.Brought.{AreBringers}
use Rattle.asl_diagnose.proofs.search.find_bringers.Given as goal

abbrev pub invariant-loop : goal.invariant-loop
invariant-loop l = IfSome l.found (AreBringers l.text l.k l.region)
