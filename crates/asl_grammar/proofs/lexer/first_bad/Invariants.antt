-- what is left gives the answer
use Rattle.std.proofs.Common.{◌≡◌}
use Rattle.asl_grammar.specs.Lex.{bad_place}
use Rattle.asl_grammar.specs.Reader.{bad_left, bytes_left}
use Rattle.asl_grammar.proofs.lexer.first_bad.Given as goal

abbrev pub invariant-reading : goal.invariant-reading
invariant-reading l = bad_left l.tokens ≡ bad_place l.fn.text

abbrev pub decreases-reading : goal.decreases-reading
decreases-reading l = bytes_left l.tokens
