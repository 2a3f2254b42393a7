use Rattle.asl_lock_expr.proofs.Orders.{one_of_place}
use Rattle.asl_lock_expr.proofs.lock_order.is_one.Goals as goal

pub returns : goal.returns
returns c =
    one_of_place c.args.locks.now c.args.lock.now c.requires c.place.result c.place.ensures.bound c.place.ensures.place c.place.ensures.there c.is_none.result c.is_none.ensures
