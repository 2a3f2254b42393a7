use Rattle.std.proofs.Common.{◌<◌, Ok, Err, OnErr, length, drop, refl, sym, ap, subst, ◌∙◌, ◌+◌}
use Rattle.std.proofs.lemmas.List.{drop_all}
use Rattle.std.proofs.lemmas.Option.{slice_get_read}
use Rattle.asl_lock_forest.specs.Holding.{CanGrant}
use Rattle.asl_lock_forest.proofs.Grantable.{CanGrant-tested}
use Rattle.asl_machine.specs.Request.{all_asks, asks_of, joined_all, request_of}
use Rattle.asl_machine.proofs.Asking.{all_left, free_all, held_up}
use Rattle.asl_machine.proofs.Asks.{some_requested}
use Rattle.asl_machine.proofs.request.request.Goals as goal

pub returns-then-not-branch-clause-free : goal.returns-then-not-branch-clause-free
returns-then-not-branch-clause-free c =
    sym (held_up c.args.forest.now.holding c.args.t c.args.heap.now c.args.regs.now c.args.locks.now c.loop-lock.lock-index c.lock-item.result
    (slice_get_read c.args.locks.now (length c.args.locks.now) c.loop-lock.lock-index c.lock-item.result refl c.loop-lock-test.true c.lock-item.is)
    (c.in_ok-add_lock.ensures.kept c.if-not-branch.true))

pub returns-in_err-add_lock-clause-asks : goal.returns-in_err-add_lock-clause-asks
returns-in_err-add_lock-clause-asks c =
    let some = some_requested c.args.heap.now c.args.regs.now c.args.locks.now c.loop-lock.lock-index c.lock-item.result
    (slice_get_read c.args.locks.now (length c.args.locks.now) c.loop-lock.lock-index c.lock-item.result refl c.loop-lock-test.true c.lock-item.is)
    c.in_err-add_lock.ensures.asks in
    elim c.from_residual.result as (λ r. OnErr r (0 < length (request_of c.args.heap.now c.args.regs.now c.args.locks.now))) [ Ok free ↦ tt | Err refused ↦ some ]

pub loop-lock-preserved : goal.loop-lock-preserved
loop-lock-preserved c = record {
  joined =
      ap (λ r. joined_all r (all_asks c.args.heap.now c.args.regs.now (drop (c.loop-lock.lock-index + 1) c.args.locks.now))) (c.in_ok-add_lock.ensures.added c.if-not-branch.false)
      ∙ sym (all_left c.args.heap.now c.args.regs.now c.loop-lock.asks.items c.args.locks.now c.loop-lock.lock-index c.lock-item.result c.loop-lock-test.true c.lock-item.is)
      ∙ c.loop-lock.invariant.joined;
  free =
      subst (CanGrant c.args.forest.now.holding c.args.t) (sym (c.in_ok-add_lock.ensures.added c.if-not-branch.false))
      (free_all c.args.forest.now.holding c.args.t c.loop-lock.asks.items (asks_of c.args.heap.now c.args.regs.now c.lock-item.result) c.loop-lock.invariant.free
      (c.in_ok-add_lock.ensures.free c.if-not-branch.false));
}

pub returns-clause-free : goal.returns-clause-free
returns-clause-free c =
    sym (CanGrant-tested c.args.forest.now.holding c.args.t (request_of c.args.heap.now c.args.regs.now c.args.locks.now)
    (subst (CanGrant c.args.forest.now.holding c.args.t)
    (sym (ap (λ ls. joined_all c.loop-lock.asks.items (all_asks c.args.heap.now c.args.regs.now ls)) (drop_all c.loop-lock.lock-index c.args.locks.now c.loop-lock-test.false))
    ∙ c.loop-lock.invariant.joined) c.loop-lock.invariant.free))
