use Rattle.asl_grammar.specs.Lex.{tokens_of}
use Rattle.asl_syntax.proofs.Plain.{one_tree}
use Rattle.asl_syntax.proofs.laws.a_text_has_one_tree.Goals as goal

pub returns-clause-tokens : goal.returns-clause-tokens
returns-clause-tokens c = one_tree

pub returns-clause-text : goal.returns-clause-text
returns-clause-text c = λ t u text p q. one_tree t u (tokens_of text) p.spelled.spelled q.spelled.spelled
