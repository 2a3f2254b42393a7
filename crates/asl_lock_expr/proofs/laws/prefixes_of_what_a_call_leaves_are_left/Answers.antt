use Rattle.asl_lock_expr.proofs.Leaves.{prefix_left}
use Rattle.asl_lock_expr.proofs.laws.prefixes_of_what_a_call_leaves_are_left.Goals as goal

pub returns : goal.returns
returns c = prefix_left
