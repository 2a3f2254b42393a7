use Rattle.asl_grammar.specs.Lex.{tokens_of}
use Rattle.asl_grammar.specs.Reader.{bytes_left, spots_left}
use Rattle.asl_diagnose_text.proofs.Words.{IsCounting}
use Rattle.asl_diagnose_text.proofs.word_place.numbered.Given as goal

abbrev pub invariant-reading : goal.invariant-reading
invariant-reading l = IsCounting l.word (tokens_of l.fn.text) (spots_left l.tokens) l.number l.left

abbrev pub decreases-reading : goal.decreases-reading
decreases-reading l = bytes_left l.tokens
