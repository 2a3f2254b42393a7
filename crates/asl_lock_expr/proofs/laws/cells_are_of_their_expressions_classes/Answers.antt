use Rattle.asl_lock_expr.proofs.Walks.{class_along}
use Rattle.asl_lock_expr.proofs.laws.cells_are_of_their_expressions_classes.Goals as goal

pub returns : goal.returns
returns c = class_along
