-- what is left gives the answer
use Rattle.std.proofs.Common.{◌≡◌}
use Rattle.asl_grammar.specs.Reader.{bytes_left}
use Rattle.asl_syntax.specs.Heard.{heard_count}
use Rattle.asl_syntax.specs.WordView.{words_left}
use Rattle.asl_syntax.proofs.scan.parameter_count.Given as goal

abbrev pub invariant-reading : goal.invariant-reading
invariant-reading l = heard_count (words_left l.words) l.name ≡ heard_count (words_left l.fn.words) l.name

abbrev pub decreases-reading : goal.decreases-reading
decreases-reading l = bytes_left l.words.tokens
