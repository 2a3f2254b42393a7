use Rattle.std.proofs.Common.{refl}
use Rattle.asl_lock_queue.proofs.seats.Seats.may_go.Goals as goal

pub returns-then-goes_with_holders-clause-goes : goal.returns-then-goes_with_holders-clause-goes
returns-then-goes_with_holders-clause-goes c goes = record { holders = c.if-goes_with_holders.ensures.free refl; waiters = c.goes_with_waiters.ensures.together goes }
