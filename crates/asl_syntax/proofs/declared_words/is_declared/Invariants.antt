-- what is left gives the answer
use Rattle.std.proofs.Common.{◌≡◌, take}
use Rattle.asl_syntax.specs.Rules.{names_in}
use Rattle.asl_syntax.specs.WordView.{words_left}
use Rattle.asl_syntax.proofs.declared_words.is_declared.Given as goal

abbrev pub invariant-reading : goal.invariant-reading
invariant-reading l =
    names_in l.space (take l.left (words_left l.words)) l.name ≡ names_in l.space (take l.fn.count (words_left l.fn.words)) l.name

abbrev pub decreases-reading : goal.decreases-reading
decreases-reading l = l.left
