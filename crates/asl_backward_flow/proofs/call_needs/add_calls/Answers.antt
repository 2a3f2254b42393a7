use Rattle.std.proofs.Common.{rules, ◌∙◌, slice_get, ap, sym}
use Rattle.std.proofs.lemmas.Option.{slice_get-get_or, slice_get_within}
use Rattle.asl_backward_flow.specs.Found.{table}
use Rattle.asl_lock_expr.specs.Links.{IsOne}
use Rattle.asl_backward_flow.specs.Follows.{read, AtCallOf}
use Rattle.asl_backward_flow.proofs.Adding.{added_none}
use Rattle.asl_backward_flow.proofs.Points.{row_read, nothing_past}
use Rattle.asl_backward_flow.proofs.Each.{calls_of_more, calls_of_stopped, calls_of_end}
use Rattle.asl_backward_flow.proofs.call_needs.add_calls.Goals as goal

pub add_call-requires-clause-code : goal.add_call-requires-clause-code
add_call-requires-clause-code c =
    let row = row_read c.args.analysis.now.calls.now c.from.result c.args.function c.in-Some.calls.now _ c.from.ensures c.in-Some.ensures.lookup.1 c.in-Some.ensures.lookup.3.0 c.as_slice-pc-items.ensures.value in
    let at = slice_get-get_or c.as_slice-pc-items.result.now c.loop-pc.pc-index 0 c.loop-pc-test.true in
    (c.requires.analysis.calls.only c.args.function _ (c.loop-pc.pc-index, ap (λ l. slice_get l c.loop-pc.pc-index) (sym row) ∙ at)).0

pub loop-pc-preserved : goal.loop-pc-preserved
loop-pc-preserved c =
    record {
      added = calls_of_more (read c.args.analysis.now) _ (table c.loop-pc.found) _ c.loop-pc.pc-index _ (IsOne c.args.locks.now) c.as_slice-pc-items.result.now
          (slice_get-get_or c.as_slice-pc-items.result.now c.loop-pc.pc-index 0 c.loop-pc-test.true) c.loop-pc.invariant.added c.in_ok-add_call.ensures.ok;
      known = c.in_ok-add_call.ensures.known;
    }

pub returns-in_err-add_call-clause-err : goal.returns-in_err-add_call-clause-err
returns-in_err-add_call-clause-err c =
    let row = row_read c.args.analysis.now.calls.now c.from.result c.args.function c.in-Some.calls.now _ c.from.ensures c.in-Some.ensures.lookup.1 c.in-Some.ensures.lookup.3.0 c.as_slice-pc-items.ensures.value in
    let stopped = calls_of_stopped (read c.args.analysis.now) (table c.args.found.now) (table c.loop-pc.found) (table c.add_call.new.found) c.loop-pc.pc-index _ (IsOne c.args.locks.now) c.as_slice-pc-items.result.now c.args.function _ row c.requires.analysis
    (slice_get-get_or c.as_slice-pc-items.result.now c.loop-pc.pc-index 0 c.loop-pc-test.true) c.loop-pc.invariant.added c.in_err-add_call.ensures.err in
    search (rules, stopped)

pub returns-after-loop-pc-clause-ok : goal.returns-after-loop-pc-clause-ok
returns-after-loop-pc-clause-ok c =
    let row = row_read c.args.analysis.now.calls.now c.from.result c.args.function c.in-Some.calls.now _ c.from.ensures c.in-Some.ensures.lookup.1 c.in-Some.ensures.lookup.3.0 c.as_slice-pc-items.ensures.value in
    calls_of_end (read c.args.analysis.now) _ _ c.loop-pc.pc-index (IsOne c.args.locks.now) c.as_slice-pc-items.result.now c.args.function row c.requires.analysis c.loop-pc-test.false c.loop-pc.invariant.added

pub returns-in_default-clause-ok : goal.returns-in_default-clause-ok
returns-in_default-clause-ok c =
    added_none (read c.args.analysis.now) _ (AtCallOf (read c.args.analysis.now) c.args.function (IsOne c.args.locks.now)) c.requires.ready
    (λ p q m h. nothing_past c.args.analysis.now.calls.now c.from.result c.args.function q c.from.ensures c.in_default.ensures.lookup.3
    (c.requires.analysis.calls.all c.args.function q (slice_get_within c.args.analysis.now.lowering.now.code q _ h.2.0.2) h.2.0))
