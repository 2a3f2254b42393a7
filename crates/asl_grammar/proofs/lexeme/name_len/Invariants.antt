-- what is left and what is counted give the answer
use Rattle.std.proofs.Common.{◌≡◌, ◌+◌, drop}
use Rattle.asl_grammar.specs.Lex.{leading, is_name_byte}
use Rattle.asl_grammar.proofs.lexeme.name_len.Given as goal

abbrev pub invariant-loop-n : goal.invariant-loop-n
invariant-loop-n l = l.n + leading is_name_byte (drop l.n l.text) ≡ leading is_name_byte l.text
