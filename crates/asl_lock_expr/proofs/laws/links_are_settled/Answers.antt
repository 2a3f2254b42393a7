use Rattle.asl_lock_expr.proofs.Leaves.{linked_well}
use Rattle.asl_lock_expr.proofs.laws.links_are_settled.Goals as goal

pub returns : goal.returns
returns c = linked_well
