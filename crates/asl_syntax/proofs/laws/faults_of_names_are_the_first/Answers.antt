use Rattle.asl_syntax.proofs.FirstTwice.{twice_first}
use Rattle.asl_syntax.proofs.FirstUnknown.{unknown_first}
use Rattle.asl_syntax.proofs.FirstWrongCall.{wrong_call_first}
use Rattle.asl_syntax.proofs.laws.faults_of_names_are_the_first.Goals as goal

pub returns-clause-twice : goal.returns-clause-twice
returns-clause-twice c = twice_first

pub returns-clause-unknown : goal.returns-clause-unknown
returns-clause-unknown c = unknown_first

pub returns-clause-arity : goal.returns-clause-arity
returns-clause-arity c = wrong_call_first
