use Rattle.std.proofs.Common.{◌<◌, length, arith, sym, ◌∙◌}
use Rattle.std.proofs.lemmas.Bool.{eqb-false}
use Rattle.asl_lower.proofs.Sized.{some_else}
use Rattle.asl_lower.proofs.Trees.{second_some}
use Rattle.asl_lower.proofs.outside.jumps_over.Goals as goal

pub returns-else-is_empty-clause-size : goal.returns-else-is_empty-clause-size
returns-else-is_empty-clause-size c =
    let some : 0 < length c.args.second.now = omega (arith, eqb-false (length c.args.second.now) 0 (sym c.is_empty.ensures ∙ c.if-is_empty.false)) in
    omega (arith, some_else c.args.second.now some)

pub returns-else-is_empty-clause-access : goal.returns-else-is_empty-clause-access
returns-else-is_empty-clause-access c pc =
    let some : 0 < length c.args.second.now = omega (arith, eqb-false (length c.args.second.now) 0 (sym c.is_empty.ensures ∙ c.if-is_empty.false)) in
    second_some c.args.second.now pc some
