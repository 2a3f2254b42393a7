use Rattle.std.proofs.Common.{Some, ap, sym, ◌∙◌, eqb-true}
use Rattle.asl_lock_expr.proofs.RowNumbers.{last_in}
use Rattle.asl_lock_expr.proofs.store_rows.ends_with.Goals as goal

pub returns-in-Some : goal.returns-in-Some
returns-in-Some c = λ same. last_in c.args.row.now c.args.number (sym c.in-Some.ensures.value ∙ ap Some (eqb-true c.in-Some.last.now c.args.number same))
