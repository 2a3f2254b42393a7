use Rattle.asl_syntax.proofs.Used.{known}
use Rattle.asl_syntax.proofs.Called.{arity}
use Rattle.asl_syntax.proofs.laws.names_are_known.Goals as goal

pub returns-clause-unknown : goal.returns-clause-unknown
returns-clause-unknown c = known

pub returns-clause-arity : goal.returns-clause-arity
returns-clause-arity c = arity
