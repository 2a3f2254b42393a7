-- what is left gives the answers
use Rattle.std.proofs.Common.{◌≡◌, []}
use Rattle.asl_grammar.specs.Lex.{tokens_of, bad_place}
use Rattle.asl_grammar.specs.Reader.{spots_left, bad_left, bytes_left}
use Rattle.asl_syntax.specs.Limit.{limit_from}
use Rattle.asl_syntax.specs.TallyView.{tally_in}
use Rattle.asl_syntax.proofs.Tallying.{over_from}
use Rattle.asl_syntax.proofs.source_limits.reach.Given as goal

abbrev pub invariant-reading : goal.invariant-reading
invariant-reading l =
    (over_from (tally_in l.counts) (spots_left l.tokens) ≡ limit_from [] (tokens_of l.fn.text))
    × (bad_left l.tokens ≡ bad_place l.fn.text)

abbrev pub decreases-reading : goal.decreases-reading
decreases-reading l = bytes_left l.tokens
