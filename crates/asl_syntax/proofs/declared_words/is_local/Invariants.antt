-- what is left gives the answer
use Rattle.std.proofs.Common.{◌≡◌}
use Rattle.asl_grammar.specs.Reader.{bytes_left}
use Rattle.asl_syntax.specs.declared.names.Space.TheVariants.{Locals}
use Rattle.asl_syntax.specs.Rules.{names_in}
use Rattle.asl_syntax.specs.Heard.{own_part}
use Rattle.asl_syntax.specs.WordView.{words_left}
use Rattle.asl_syntax.proofs.declared_words.is_local.Given as goal

abbrev pub invariant-reading : goal.invariant-reading
invariant-reading l =
    names_in Locals (own_part (words_left l.own)) l.name ≡ names_in Locals (own_part (words_left l.fn.own)) l.name

abbrev pub decreases-reading : goal.decreases-reading
decreases-reading l = bytes_left l.own.tokens
