use Rattle.asl_grammar.specs.Reader.{bytes_left}
use Rattle.asl_diagnose.proofs.region_lines.region_lines.Given as goal

abbrev pub decreases-reading : goal.decreases-reading
decreases-reading l = bytes_left l.tokens
