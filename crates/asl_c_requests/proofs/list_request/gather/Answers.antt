use Rattle.std.proofs.Common.{◌+◌, Ok, map, take, drop, sym, ap, ◌∙◌, arith}
use Rattle.std.proofs.lemmas.Result.{err_from_is_err_and}
use Rattle.asl_lock_queue.specs.Asks.{ask_of}
use Rattle.asl_c_requests.specs.Traced.{gathered}
use Rattle.asl_c_requests.proofs.Promises.{gathered_step, gathered_fails}
use Rattle.asl_c_requests.proofs.WordLaws.{drop_further}
use Rattle.asl_c_requests.proofs.list_request.gather.Goals as goal

pub loop-lock-preserved : goal.loop-lock-preserved
loop-lock-preserved c = record {
  gathered =
      ap (gathered c.args.registers.now c.args.objects.now c.args.cells.now (drop (c.loop-lock.lock-index + 1) c.args.locks.now)) (sym c.in_ok-now.ensures.added)
      ∙ sym (gathered_step c.args.registers.now c.args.objects.now c.args.cells.now c.args.locks.now c.loop-lock.lock-index c.lock-item.result (Ok (map ask_of (take c.loop-lock.count c.loop-lock.asks))) c.loop-lock-test.true c.lock-item.is)
      ∙ c.loop-lock.invariant.gathered;
  kinds = c.in_ok-now.ensures.kinds;
  rest = c.in_ok-now.ensures.rest ∙ drop_further _ _ _ _ c.in_ok-now.ensures.more c.loop-lock.invariant.rest;
  room = omega (arith, c.in_ok-now.ensures.three);
  length = c.add_lock.ensures.length ∙ c.loop-lock.invariant.length;
}

pub returns-in_err-now-clause-needed : goal.returns-in_err-now-clause-needed
returns-in_err-now-clause-needed c =
    let fails = gathered_fails c.args.registers.now c.args.objects.now c.args.cells.now c.args.locks.now c.loop-lock.lock-index c.lock-item.result
    (map ask_of (take c.loop-lock.count c.loop-lock.asks)) _ c.loop-lock-test.true c.lock-item.is c.in_err-now.ensures.needed in
    let p = err_from_is_err_and c.from_residual.result c.from_residual.ensures.1 in
    rw (p.1, p.2) (sym c.loop-lock.invariant.gathered ∙ fails)
