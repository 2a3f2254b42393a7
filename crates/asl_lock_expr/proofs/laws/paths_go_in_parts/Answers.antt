use Rattle.asl_lock_expr.proofs.Steps.{class_append}
use Rattle.asl_expression.proofs.Paths.{path_append}
use Rattle.asl_lock_expr.proofs.laws.paths_go_in_parts.Goals as goal

pub returns-clause-cells : goal.returns-clause-cells
returns-clause-cells c = path_append

pub returns-clause-classes : goal.returns-clause-classes
returns-clause-classes c = class_append
