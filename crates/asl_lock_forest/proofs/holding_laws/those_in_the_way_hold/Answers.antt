use Rattle.asl_lock_forest.proofs.Lawful.{way_holds, way_there}
use Rattle.asl_lock_forest.proofs.Grantable.{refused_cannot}
use Rattle.asl_lock_forest.proofs.holding_laws.those_in_the_way_hold.Goals as goal

pub returns-clause-holds : goal.returns-clause-holds
returns-clause-holds c = way_holds

pub returns-clause-there : goal.returns-clause-there
returns-clause-there c = way_there

pub returns-clause-refuses : goal.returns-clause-refuses
returns-clause-refuses c h thread request other node way can = refused_cannot h thread request (other, node, way) can
