use Rattle.std.proofs.Common.{◌+◌, refl, sym, subst, ap, slice_get, ◌∙◌}
use Rattle.std.proofs.lemmas.Option.{slice_get-get_or}
use Rattle.asl_backward_flow.specs.Follows.{read, AreBefore}
use Rattle.asl_backward_flow.proofs.Points.{stands_at, point_at, not_point, row_read, nothing_past}
use Rattle.asl_backward_flow.proofs.Each.{no_span}
use Rattle.asl_backward_flow.proofs.Befores.{Below, jumps_more, jumps_skip, jumps_end, jumps_none}
use Rattle.asl_backward_flow.proofs.needs_step.add_jumps.Goals.{then-has+in_ok-push, else-has}
use Rattle.asl_backward_flow.proofs.needs_step.add_jumps.Goals as goal

pub loop-jump-preserved : goal.loop-jump-preserved
loop-jump-preserved c =
    let there = stands_at c.args.analysis.now.spans.now c.args.analysis.now.spans.now c.from.result c.args.part no_span refl c.from.ensures c.requires.there in
    let at = slice_get-get_or c.as_slice-jump-items.result.now c.loop-jump.jump-index 0 c.loop-jump-test.true in
    let row = row_read c.args.analysis.now.jumps.now c.from-2.result c.args.pc c.in-Some.jumps.now _ c.from-2.ensures c.in-Some.ensures.lookup.1 c.in-Some.ensures.lookup.3.0 c.as_slice-jump-items.ensures.value in
    elim c.if-has.branch [
      | then-has+in_ok-push w ↦
          subst (λ v. AreBefore (read c.args.analysis.now) c.args.part c.args.pc (Below (read c.args.analysis.now) c.args.part c.args.pc c.as_slice-jump-items.result.now (c.loop-jump.jump-index + 1)) v.items) (sym w.pcs-is)
          (jumps_more (read c.args.analysis.now) c.args.part c.args.pc c.as_slice-jump-items.result.now c.loop-jump.pcs.items w.push.new.self.items c.loop-jump.jump-index _ at w.in_ok-push.ensures.items
          (point_at (read c.args.analysis.now) c.args.part _ _ there _ c.has.ensures w.if-has.true)
          (c.requires.analysis.jumps.only c.args.pc _ (c.loop-jump.jump-index, ap (λ l. slice_get l c.loop-jump.jump-index) (sym row) ∙ at)).1.0 c.loop-jump.invariant)
      | else-has w ↦
          subst (λ v. AreBefore (read c.args.analysis.now) c.args.part c.args.pc (Below (read c.args.analysis.now) c.args.part c.args.pc c.as_slice-jump-items.result.now (c.loop-jump.jump-index + 1)) v.items) (sym w.pcs-is)
          (jumps_skip (read c.args.analysis.now) c.args.part c.args.pc c.as_slice-jump-items.result.now c.loop-jump.pcs.items c.loop-jump.jump-index _ at
          (not_point (read c.args.analysis.now) c.args.part _ _ there _ c.has.ensures w.if-has.false) c.loop-jump.invariant)
    ]

pub returns-after-loop-jump : goal.returns-after-loop-jump
returns-after-loop-jump c =
    let row = row_read c.args.analysis.now.jumps.now c.from-2.result c.args.pc c.in-Some.jumps.now _ c.from-2.ensures c.in-Some.ensures.lookup.1 c.in-Some.ensures.lookup.3.0 c.as_slice-jump-items.ensures.value in
    jumps_end (read c.args.analysis.now) c.args.part c.args.pc c.requires.analysis c.as_slice-jump-items.result.now c.loop-jump.pcs.items c.loop-jump.jump-index row c.loop-jump-test.false c.loop-jump.invariant

pub returns-in_default : goal.returns-in_default
returns-in_default c =
    jumps_none (read c.args.analysis.now) c.args.part c.args.pc c.requires.analysis c.args.pcs.now.items
    (λ q h. nothing_past c.args.analysis.now.jumps.now c.from-2.result c.args.pc q c.from-2.ensures c.in_default.ensures.lookup.3 h) c.requires.before
