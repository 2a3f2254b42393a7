use Rattle.asl_lock_forest.proofs.Grantable.{can_grant-tells, CanGrant-tested, can_grant-refused}
use Rattle.asl_lock_forest.proofs.holding_laws.requests_are_tested.Goals as goal

pub returns-clause-told : goal.returns-clause-told
returns-clause-told c h thread request = (can_grant-tells h thread request, CanGrant-tested h thread request)

pub returns-clause-refused : goal.returns-clause-refused
returns-clause-refused c = can_grant-refused
