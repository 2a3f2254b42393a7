use Rattle.asl_lock_expr.specs.ClassOf.{ByCall}
use Rattle.asl_lock_expr.proofs.laws.written_classes_pass_on.Goals as goal

pub returns : goal.returns
returns c l classes f pc g x body calls more = ByCall f pc g x body calls more
