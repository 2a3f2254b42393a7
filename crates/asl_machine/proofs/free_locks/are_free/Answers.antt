use Rattle.std.proofs.Common.{length, take, refl, sym, ap, subst}
use Rattle.std.proofs.lemmas.List.{take_all}
use Rattle.std.proofs.lemmas.Option.{slice_get_read}
use Rattle.asl_lock_forest.specs.Holding.{CanGrant}
use Rattle.asl_lock_forest.proofs.Grantable.{CanGrant-tested}
use Rattle.asl_machine.specs.Request.{asks_of, request_of}
use Rattle.asl_machine.proofs.Asking.{free_all, free_none, held_up, request_more}
use Rattle.asl_machine.proofs.free_locks.are_free.Goals as goal

pub loop-lock-init : goal.loop-lock-init
loop-lock-init c = free_none c.args.forest.now.holding c.args.t

pub returns-then-not-is_lock_free : goal.returns-then-not-is_lock_free
returns-then-not-is_lock_free c =
    sym (held_up c.args.forest.now.holding c.args.t c.args.heap.now c.args.regs.now c.args.locks.now c.loop-lock.lock-index c.lock-item.result
    (slice_get_read c.args.locks.now (length c.args.locks.now) c.loop-lock.lock-index c.lock-item.result refl c.loop-lock-test.true c.lock-item.is)
    (c.is_lock_free.ensures.kept c.if-not-is_lock_free.true))

pub loop-lock-preserved : goal.loop-lock-preserved
loop-lock-preserved c =
    subst (CanGrant c.args.forest.now.holding c.args.t)
    (sym (request_more c.args.heap.now c.args.regs.now c.args.locks.now c.loop-lock.lock-index c.lock-item.result c.loop-lock-test.true c.lock-item.is))
    (free_all c.args.forest.now.holding c.args.t (request_of c.args.heap.now c.args.regs.now (take c.loop-lock.lock-index c.args.locks.now))
    (asks_of c.args.heap.now c.args.regs.now c.lock-item.result) c.loop-lock.invariant (c.is_lock_free.ensures.free c.if-not-is_lock_free.false))

pub returns : goal.returns
returns c =
    sym (CanGrant-tested c.args.forest.now.holding c.args.t (request_of c.args.heap.now c.args.regs.now c.args.locks.now)
    (subst (CanGrant c.args.forest.now.holding c.args.t)
    (ap (request_of c.args.heap.now c.args.regs.now) (take_all c.loop-lock.lock-index c.args.locks.now c.loop-lock-test.false)) c.loop-lock.invariant))
