use Rattle.asl_grammar.proofs.Apart.{front_name, front_number}
use Rattle.asl_grammar.proofs.laws.a_token_is_read_whole.Goals as goal

pub returns-clause-name : goal.returns-clause-name
returns-clause-name c = front_name

pub returns-clause-number : goal.returns-clause-number
returns-clause-number c = front_number
