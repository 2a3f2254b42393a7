use Rattle.asl_grammar.specs.Reader.{bytes_left}
use Rattle.asl_diagnose_text.proofs.limit_hints.limit_hint.Given as goal

abbrev pub decreases-reading : goal.decreases-reading
decreases-reading l = bytes_left l.tokens
