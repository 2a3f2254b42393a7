use Rattle.asl_lock_expr.specs.LinksView.{seen as seen_by}
use Rattle.asl_backward_flow.proofs.Masking.{both_clear, nothing_clear, more_clear, on_more, on_both}
use Rattle.asl_backward_flow.proofs.masks.find_touched.Goals as goal

pub returns-then-is-clause-touched : goal.returns-then-is-clause-touched
returns-then-is-clause-touched c =
    let v = seen_by c.args.view.now in
    let locks = c.args.locks.now in
    on_more c.copy_mask.result _ _
    (λ so. both_clear v locks c.args.instr c.set_by-register.result c.stored_by-cells.result c.copy_mask.new.touched c.set_by-register.ensures c.stored_by-cells.ensures so
    (nothing_clear v locks c.set_by-register.result c.stored_by-cells.result c.copy_mask.new.touched (c.is.ensures c.if-is.true) so))
    c.copy_mask.ensures.touched

pub returns-then-is-2-clause-touched : goal.returns-then-is-2-clause-touched
returns-then-is-2-clause-touched c =
    let v = seen_by c.args.view.now in
    let locks = c.args.locks.now in
    let so = c.in_ok-copy_mask.ensures.touched in
    both_clear v locks c.args.instr c.set_by-register.result c.stored_by-cells.result c.copy_mask-2.new.touched c.set_by-register.ensures c.stored_by-cells.ensures
    (nothing_clear v locks c.stored_by-cells.result c.set_by-register.result c.copy_mask-2.new.touched (c.is-2.ensures c.if-is-2.true) so) so

pub returns-clause-touched : goal.returns-clause-touched
returns-clause-touched c =
    let v = seen_by c.args.view.now in
    let locks = c.args.locks.now in
    on_both c.add_mask.result _ _ _
    (λ so kept. both_clear v locks c.args.instr c.set_by-register.result c.stored_by-cells.result c.add_mask.new.touched c.set_by-register.ensures c.stored_by-cells.ensures so
    (more_clear v locks c.stored_by-cells.result c.copy_mask-2.new.touched c.add_mask.new.touched kept c.in_ok-copy_mask.ensures.touched))
    c.add_mask.ensures.touched c.add_mask.ensures.kept
