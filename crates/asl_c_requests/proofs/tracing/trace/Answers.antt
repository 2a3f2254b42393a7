use Rattle.std.proofs.Common.{◌+◌, drop, sym, ◌∙◌}
use Rattle.std.proofs.lemmas.Result.{err_from_is_err_and}
use Rattle.asl_c_requests.proofs.TracedLaws.{nowhere, trace_fails, trace_goes}
use Rattle.asl_c_requests.proofs.tracing.trace.Goals as goal

pub returns-in_err-next : goal.returns-in_err-next
returns-in_err-next c =
    let stops = trace_fails _ _ _ _ _ _ _ c.loop-op-test.true (sym c.walk.ensures ∙ c.in_err-next.was) in
    let p = err_from_is_err_and c.from_residual.result c.from_residual.ensures.1 in
    rw (p.1, p.2) (sym stops ∙ c.loop-op.invariant)

pub returns-in-None : goal.returns-in-None
returns-in-None c =
    let goes = trace_goes _ _ _ _ _ _ _ c.loop-op-test.true (sym c.walk.ensures ∙ c.in_ok-next.was) in
    let none = nowhere c.args.objects.now c.args.cells.now (drop (c.loop-op.op-index + 1) c.args.path.now) in
    let left = c.loop-op.invariant in
    cc (goes, none, left, c.in-None.is)
