use Rattle.asl_grammar.specs.Lex.{tokens_of}
use Rattle.asl_grammar.specs.Reader.{bytes_left, spots_left}
use Rattle.asl_diagnose_text.proofs.Braces.{IsOpen}
use Rattle.asl_diagnose_text.proofs.statements.is_open.Given as goal

abbrev pub invariant-reading : goal.invariant-reading
invariant-reading l = IsOpen l.from l.to (tokens_of l.fn.text) (spots_left l.tokens) l.depth (bytes_left l.tokens)

abbrev pub decreases-reading : goal.decreases-reading
decreases-reading l = bytes_left l.tokens
