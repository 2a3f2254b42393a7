use Rattle.std.proofs.Common.{[], refl}
use Rattle.asl_expression.specs.Expression.{base_cell}
use Rattle.asl_lock_expr.proofs.Walks.{not_through}
use Rattle.asl_lock_expr.proofs.Leaves.{not_crossed}
use Rattle.asl_lock_expr.proofs.laws.stores_elsewhere_move_no_path.Goals as goal

pub returns-clause-classes : goal.returns-clause-classes
returns-clause-classes c = not_through

pub returns-clause-prefixes : goal.returns-clause-prefixes
returns-clause-prefixes c h new c0 v w regs e apart = not_crossed h new c0 v w regs e.base [] e.path (base_cell regs e.base) refl apart
