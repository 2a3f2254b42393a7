-- what is left gives the answer
use Rattle.std.proofs.Common.{◌≡◌}
use Rattle.asl_grammar.specs.Reader.{bytes_left}
use Rattle.asl_syntax.specs.Heard.{first_unheard}
use Rattle.asl_syntax.specs.WordView.{words_left}
use Rattle.asl_syntax.proofs.scan.unknown.Given as goal

abbrev pub invariant-reading : goal.invariant-reading
invariant-reading l =
    first_unheard (words_left l.all) (words_left l.own) (words_left l.here) ≡ first_unheard (words_left l.all) (words_left l.all) (words_left l.all)

abbrev pub decreases-reading : goal.decreases-reading
decreases-reading l = bytes_left l.here.tokens
