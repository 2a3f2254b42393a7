use Rattle.std.proofs.Common.{sym, ◌∙◌}
use Rattle.asl_expression.proofs.Paths.{no_cell_from_step}
use Rattle.asl_expression.proofs.evaluation.follow.Goals as goal

pub returns-in_err-cell : goal.returns-in_err-cell
returns-in_err-cell g c =
    let stuck = no_cell_from_step _ _ _ _ _ c.loop-op-test.true (sym c.walk.ensures ∙ c.in_err-cell.was) in
    let left = c.loop-op.invariant in
    cc (c.from_residual.ensures, stuck, left)
