use Rattle.asl_grammar.proofs.Longest.{longest_front, only_front, one_token}
use Rattle.asl_grammar.proofs.laws.a_front_is_the_longest_token.Goals as goal

pub returns-clause-front : goal.returns-clause-front
returns-clause-front c = longest_front

pub returns-clause-one : goal.returns-clause-one
returns-clause-one c = one_token

pub returns-clause-only : goal.returns-clause-only
returns-clause-only c = only_front
