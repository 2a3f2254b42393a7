use Rattle.std.proofs.Common.{rules, ◌∙◌, ℕ, slice_get, ap, sym, subst}
use Rattle.std.proofs.lemmas.Option.{slice_get-get_or, slice_get_within}
use Rattle.asl_backward_flow.specs.Found.{table}
use Rattle.asl_lock_expr.specs.Links.{IsOne}
use Rattle.asl_backward_flow.specs.Entering.{IsCalledAtOf}
use Rattle.asl_backward_flow.specs.Follows.{read, IsAtPoint}
use Rattle.asl_backward_flow.specs.Graph.{IsCall}
use Rattle.asl_backward_flow.proofs.Adding.{added_none}
use Rattle.asl_backward_flow.proofs.Points.{row_read, nothing_past}
use Rattle.asl_backward_flow.proofs.Each.{calls_more, calls_stopped, calls_end, called_there}
use Rattle.asl_backward_flow.proofs.call_needs.add_call.Goals as goal

pub add_entered_in-requires-clause-point : goal.add_entered_in-requires-clause-point
add_entered_in-requires-clause-point c =
    let row = row_read c.args.analysis.now.regions.now c.from.result c.args.pc c.in-Some.parts.now _ c.from.ensures c.in-Some.ensures.lookup.1 c.in-Some.ensures.lookup.3.0 c.as_slice-part-items.ensures.value in
    let at = slice_get-get_or c.as_slice-part-items.result.now c.loop-part.part-index 0 c.loop-part-test.true in
    let only = c.requires.analysis.regions.only c.args.pc _ (c.loop-part.part-index, ap (λ l. slice_get l c.loop-part.part-index) (sym row) ∙ at) in
    only.1.0

pub add_entered_in-requires-clause-there : goal.add_entered_in-requires-clause-there
add_entered_in-requires-clause-there c =
    let row = row_read c.args.analysis.now.regions.now c.from.result c.args.pc c.in-Some.parts.now _ c.from.ensures c.in-Some.ensures.lookup.1 c.in-Some.ensures.lookup.3.0 c.as_slice-part-items.ensures.value in
    let at = slice_get-get_or c.as_slice-part-items.result.now c.loop-part.part-index 0 c.loop-part-test.true in
    let only = c.requires.analysis.regions.only c.args.pc _ (c.loop-part.part-index, ap (λ l. slice_get l c.loop-part.part-index) (sym row) ∙ at) in
    only.0

pub loop-part-preserved : goal.loop-part-preserved
loop-part-preserved c =
    let row = row_read c.args.analysis.now.regions.now c.from.result c.args.pc c.in-Some.parts.now _ c.from.ensures c.in-Some.ensures.lookup.1 c.in-Some.ensures.lookup.3.0 c.as_slice-part-items.ensures.value in
    let at = slice_get-get_or c.as_slice-part-items.result.now c.loop-part.part-index 0 c.loop-part-test.true in
    let only = c.requires.analysis.regions.only c.args.pc _ (c.loop-part.part-index, ap (λ l. slice_get l c.loop-part.part-index) (sym row) ∙ at) in
    record { added = calls_more (read c.args.analysis.now) _ (table c.loop-part.found) _ c.loop-part.part-index _ c.args.pc (IsOne c.args.locks.now) c.as_slice-part-items.result.now at only.1.0 c.loop-part.invariant.added c.in_ok-add_entered_in.ensures.ok; known = c.in_ok-add_entered_in.ensures.known }

pub returns-in_err-add_entered_in-clause-err : goal.returns-in_err-add_entered_in-clause-err
returns-in_err-add_entered_in-clause-err c =
    let row = row_read c.args.analysis.now.regions.now c.from.result c.args.pc c.in-Some.parts.now _ c.from.ensures c.in-Some.ensures.lookup.1 c.in-Some.ensures.lookup.3.0 c.as_slice-part-items.ensures.value in
    let at = slice_get-get_or c.as_slice-part-items.result.now c.loop-part.part-index 0 c.loop-part-test.true in
    let only = c.requires.analysis.regions.only c.args.pc _ (c.loop-part.part-index, ap (λ l. slice_get l c.loop-part.part-index) (sym row) ∙ at) in
    let stopped = calls_stopped (read c.args.analysis.now) (table c.args.found.now) (table c.loop-part.found) (table c.add_entered_in.new.found) c.loop-part.part-index _ c.args.pc (IsOne c.args.locks.now) c.as_slice-part-items.result.now _ at only.1.0 c.loop-part.invariant.added c.in_err-add_entered_in.ensures.err in
    search (rules, stopped)

pub returns-after-loop-part-clause-ok : goal.returns-after-loop-part-clause-ok
returns-after-loop-part-clause-ok c =
    let row = row_read c.args.analysis.now.regions.now c.from.result c.args.pc c.in-Some.parts.now _ c.from.ensures c.in-Some.ensures.lookup.1 c.in-Some.ensures.lookup.3.0 c.as_slice-part-items.ensures.value in
    calls_end (read c.args.analysis.now) _ _ c.loop-part.part-index c.args.pc (IsOne c.args.locks.now) c.as_slice-part-items.result.now row c.requires.analysis c.loop-part-test.false c.loop-part.invariant.added

pub returns-in_default-clause-ok : goal.returns-in_default-clause-ok
returns-in_default-clause-ok c =
    added_none (read c.args.analysis.now) _ (IsCalledAtOf (read c.args.analysis.now) c.args.pc (IsOne c.args.locks.now)) c.requires.ready
    (λ p q m h.
    let point : IsAtPoint (read c.args.analysis.now) p c.args.pc = subst (λ y. IsAtPoint (read c.args.analysis.now) p y) h.0 h.1 in
    nothing_past c.args.analysis.now.regions.now c.from.result c.args.pc p c.from.ensures c.in_default.ensures.lookup.3
    (c.requires.analysis.regions.all c.args.pc p (slice_get_within c.args.analysis.now.spans.now p point.0 point.1)
    (point, subst (λ y. (callee : ℕ) × IsCall c.args.analysis.now.lowering.now callee y) h.0 (called_there (read c.args.analysis.now) p q (IsOne c.args.locks.now) m h.2))))
