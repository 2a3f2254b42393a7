use Rattle.asl_machine.proofs.Asks.{asked_held, lock_covers}
use Rattle.asl_machine.proofs.step_laws.grants_cover_their_locks.Goals as goal

pub returns-clause-asked : goal.returns-clause-asked
returns-clause-asked c = asked_held

pub returns-clause-covered : goal.returns-clause-covered
returns-clause-covered c = lock_covers
