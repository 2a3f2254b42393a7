use Rattle.std.proofs.Common.{IfSome}
use Rattle.asl_diagnose.specs.Brought.{AreBringers}
use Rattle.asl_diagnose.proofs.search.best_part.Given as goal

abbrev pub invariant-loop-part : goal.invariant-loop-part
invariant-loop-part l = IfSome l.best (λ p. AreBringers l.text l.k l.region p.0)
