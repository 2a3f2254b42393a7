use Rattle.asl_grammar.proofs.OneReading.{is_reading, only_tokens, only_end}
use Rattle.asl_grammar.proofs.laws.a_text_has_one_reading.Goals as goal

pub returns-clause-read : goal.returns-clause-read
returns-clause-read c = is_reading

pub returns-clause-tokens : goal.returns-clause-tokens
returns-clause-tokens c = only_tokens

pub returns-clause-end : goal.returns-clause-end
returns-clause-end c = only_end
