use Rattle.asl_syntax.proofs.Printing.{printed_lexed, printed_tokens, parsed_names}
use Rattle.asl_syntax.proofs.Respelled.{read_spaced}
use Rattle.asl_syntax.proofs.laws.a_printed_tree_is_lexed.Goals as goal

pub returns-clause-spaced : goal.returns-clause-spaced
returns-clause-spaced c = read_spaced

pub returns-clause-lexed : goal.returns-clause-lexed
returns-clause-lexed c = printed_lexed

pub returns-clause-tokens : goal.returns-clause-tokens
returns-clause-tokens c = printed_tokens

pub returns-clause-names : goal.returns-clause-names
returns-clause-names c = λ t text s. parsed_names text t s
