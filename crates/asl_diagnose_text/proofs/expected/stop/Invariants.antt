-- what is left stands after the tokens that were read, which lead to the place
use Rattle.asl_grammar.specs.Lex.{tokens_of}
use Rattle.asl_grammar.specs.Reader.{bytes_left, spots_left}
use Rattle.asl_diagnose_text.proofs.Led.{IsAfter}
use Rattle.asl_diagnose_text.specs.WalkView.{walk_place}
use Rattle.asl_diagnose_text.proofs.expected.stop.Given as goal

abbrev pub invariant-reading : goal.invariant-reading
invariant-reading l = IsAfter (tokens_of l.fn.text) (walk_place l.walk) (spots_left l.tokens)

abbrev pub decreases-reading : goal.decreases-reading
decreases-reading l = bytes_left l.tokens
