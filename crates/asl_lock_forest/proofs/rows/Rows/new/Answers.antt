use Rattle.std.proofs.Common.{refl}
use Rattle.asl_lock_forest.proofs.RowsLaws.{bare_rows, bare_kept}
use Rattle.asl_lock_forest.specs.Leaves.{zeros}
use Rattle.asl_lock_forest.specs.declared.rows.Rows.{Rows}
use Rattle.asl_lock_forest.proofs.rows.Rows.new.Goals as goal

pub returns-clause-kept : goal.returns-clause-kept
returns-clause-kept c =
    let rows : Rows = record { root = zeros; classes = c.loop-made.rows; leaves = c.new.result } in
    bare_kept rows c.loop-made.made refl c.loop-made.invariant c.new.ensures.kept c.new.ensures.bare

pub returns-clause-zeros : goal.returns-clause-zeros
returns-clause-zeros c =
    let rows : Rows = record { root = zeros; classes = c.loop-made.rows; leaves = c.new.result } in
    bare_rows rows c.loop-made.made refl c.loop-made.invariant c.new.ensures.kept c.new.ensures.bare
