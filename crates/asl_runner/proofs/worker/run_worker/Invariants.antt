use Rattle.asl_runner.specs.Turning.{IsReadyAt}
use Rattle.asl_runner.proofs.worker.run_worker.Given as goal

abbrev pub invariant-loop : goal.invariant-loop
invariant-loop g l = (goal.iterator-loop g).can_next l.iterator' × (goal.iterator-loop g).is_finite l.iterator' × IsReadyAt l.turns l.post l.at
