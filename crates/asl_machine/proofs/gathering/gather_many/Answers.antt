use Rattle.std.proofs.Common.{◌<◌, Ok, Err, OnErr, length, drop, refl, sym, ap, ◌∙◌, ◌+◌, arith}
use Rattle.std.proofs.lemmas.List.{drop_all}
use Rattle.std.proofs.lemmas.Option.{slice_get_read}
use Rattle.asl_machine.specs.Request.{all_asks, joined_all, request_of}
use Rattle.asl_machine.proofs.Asking.{all_left}
use Rattle.asl_machine.proofs.Asks.{some_requested}
use Rattle.asl_machine.proofs.gathering.gather_many.Goals as goal

pub loop-lock-preserved : goal.loop-lock-preserved
loop-lock-preserved c = record {
  joined =
      ap (λ r. joined_all r (all_asks c.args.heap.now c.args.regs.now (drop (c.loop-lock.lock-index + 1) c.args.locks.now))) c.in_ok-place_asks.ensures.added
      ∙ sym (all_left c.args.heap.now c.args.regs.now c.loop-lock.asks.items c.args.locks.now c.loop-lock.lock-index c.lock-item.result c.loop-lock-test.true c.lock-item.is)
      ∙ c.loop-lock.invariant.joined;
  kept = c.in_ok-place_asks.ensures.kept;
  few = (let old = c.loop-lock.invariant.few in let three = c.in_ok-place_asks.ensures.three in omega (arith, old, three));
}

pub returns-in_err-place_asks-clause-asks : goal.returns-in_err-place_asks-clause-asks
returns-in_err-place_asks-clause-asks c =
    let some = some_requested c.args.heap.now c.args.regs.now c.args.locks.now c.loop-lock.lock-index c.lock-item.result
    (slice_get_read c.args.locks.now (length c.args.locks.now) c.loop-lock.lock-index c.lock-item.result refl c.loop-lock-test.true c.lock-item.is)
    c.in_err-place_asks.ensures.asks in
    elim c.from_residual.result as (λ r. OnErr r (0 < length (request_of c.args.heap.now c.args.regs.now c.args.locks.now))) [ Ok free ↦ tt | Err refused ↦ some ]

pub returns-clause-request : goal.returns-clause-request
returns-clause-request c =
    sym (ap (λ ls. joined_all c.loop-lock.asks.items (all_asks c.args.heap.now c.args.regs.now ls)) (drop_all c.loop-lock.lock-index c.args.locks.now c.loop-lock-test.false))
    ∙ c.loop-lock.invariant.joined
