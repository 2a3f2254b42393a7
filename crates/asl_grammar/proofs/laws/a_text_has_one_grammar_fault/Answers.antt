use Rattle.asl_grammar.proofs.OneFault.{one_fault}
use Rattle.asl_grammar.proofs.laws.a_text_has_one_grammar_fault.Goals as goal

pub returns : goal.returns
returns c = one_fault
