use Rattle.asl_grammar.specs.Reader.{bytes_left}
use Rattle.asl_diagnose_text.proofs.main_hints.first_function.Given as goal

abbrev pub decreases-reading : goal.decreases-reading
decreases-reading l = bytes_left l.tokens
