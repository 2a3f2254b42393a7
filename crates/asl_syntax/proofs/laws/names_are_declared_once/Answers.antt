use Rattle.asl_syntax.proofs.Declared.{declared_once}
use Rattle.asl_syntax.proofs.laws.names_are_declared_once.Goals as goal

pub returns : goal.returns
returns c = declared_once
