use Rattle.asl_grammar.specs.Reader.{bytes_left}
use Rattle.asl_diagnose_text.proofs.function_head.head_of.Given as goal

abbrev pub decreases-reading : goal.decreases-reading
decreases-reading l = bytes_left l.tokens
