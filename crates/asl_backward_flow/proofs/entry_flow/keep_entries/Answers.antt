use Rattle.std.proofs.Common.{◌≡◌, ◌<◌, Some, length, slice_get, refl, ap, sym, ◌∙◌, arith}
use Rattle.std.proofs.lemmas.Option.{get_or_from_slice_get}
use Rattle.asl_backward_flow.specs.declared.span.Span.{Span}
use Rattle.asl_backward_flow.specs.Follows.{read}
use Rattle.asl_backward_flow.proofs.Points.{stands_at}
use Rattle.asl_backward_flow.proofs.Grouping.{entries_set}
use Rattle.asl_backward_flow.proofs.entry_flow.keep_entries.Goals as goal

pub loop-number-preserved : goal.loop-number-preserved
loop-number-preserved c =
    let items = c.loop-number.parts.items in
    let n = c.loop-number.number in
    let lt = c.loop-number-test.true in
    let end = c.loop-number.auto.number-end in
    let count = c.loop-number.invariant.1 in
    let room : n < length items = omega (arith, lt, end, count, c.loop-number.parts.ok.0) in
    let at : slice_get items n ≡ Some c.index_mut.result.now = stands_at items items n n c.index_mut.result.now refl refl room ∙ ap Some (sym c.index_mut.ensures.value) in
    let s = c.loop-number.invariant.0 n c.index_mut.result.now at in (
      entries_set (read c.args.analysis.now) c.args.group.now items n _ c.index_mut.result.now c.keep_entry.new.part s.0 at s.1
          (ap (λ (y : Span). y.first) (get_or_from_slice_get c.args.group.now n s.0 _ s.1)) c.in_ok-keep_entry.ensures c.loop-number.invariant.0,
      c.loop-number.invariant.1,
    )
