-- what is left gives the answer
use Rattle.std.proofs.Common.{◌≡◌}
use Rattle.asl_grammar.specs.Reader.{bytes_left}
use Rattle.asl_syntax.specs.Rules.{names_in}
use Rattle.asl_syntax.specs.WordView.{words_left}
use Rattle.asl_syntax.proofs.declared_words.is_anywhere.Given as goal

abbrev pub invariant-reading : goal.invariant-reading
invariant-reading l =
    names_in l.space (words_left l.words) l.name ≡ names_in l.space (words_left l.fn.words) l.name

abbrev pub decreases-reading : goal.decreases-reading
decreases-reading l = bytes_left l.words.tokens
