use Rattle.asl_code.proofs.OneAnswer.{one_answer, no_answer, some_answer}
use Rattle.asl_code.proofs.laws.images_have_one_answer.Goals as goal

pub returns-clause-one : goal.returns-clause-one
returns-clause-one c = one_answer

pub returns-clause-none : goal.returns-clause-none
returns-clause-none c = no_answer

pub returns-clause-some : goal.returns-clause-some
returns-clause-some c = some_answer
