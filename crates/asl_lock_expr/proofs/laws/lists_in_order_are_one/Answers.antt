use Rattle.asl_lock_expr.proofs.Orders.{one_list}
use Rattle.asl_lock_expr.proofs.laws.lists_in_order_are_one.Goals as goal

pub returns : goal.returns
returns c = one_list
