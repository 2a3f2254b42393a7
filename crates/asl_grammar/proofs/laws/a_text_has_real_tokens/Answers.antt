use Rattle.asl_grammar.proofs.Real.{tokens_real}
use Rattle.asl_grammar.proofs.laws.a_text_has_real_tokens.Goals as goal

pub returns : goal.returns
returns c = tokens_real
