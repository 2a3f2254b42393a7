-- what is left gives the answer
use Rattle.std.proofs.Common.{◌≡◌}
use Rattle.asl_grammar.specs.Lex.{tokens_of}
use Rattle.asl_grammar.specs.Reader.{spots_left, bytes_left}
use Rattle.asl_syntax.specs.Rules.{wrong_call_from, name_places}
use Rattle.asl_syntax.specs.Heard.{heard_count}
use Rattle.asl_syntax.specs.WordView.{words_left}
use Rattle.asl_syntax.proofs.scan.wrong_call.Given as goal

abbrev pub invariant-reading : goal.invariant-reading
invariant-reading l =
    wrong_call_from (heard_count (words_left l.all)) (words_left l.here) (name_places (spots_left l.tokens)) ≡ wrong_call_from (heard_count (words_left l.all)) (words_left l.all) (name_places (tokens_of l.fn.text))

abbrev pub decreases-reading : goal.decreases-reading
decreases-reading l = bytes_left l.here.tokens
