use Rattle.asl_grammar.specs.Lex.{tokens_of}
use Rattle.asl_grammar.specs.Reader.{bytes_left, spots_left}
use Rattle.asl_diagnose_text.proofs.Scanned.{IsRead}
use Rattle.asl_diagnose_text.proofs.declared.twice_places.Given as goal

abbrev pub invariant-reading : goal.invariant-reading
invariant-reading l = IsRead l.fn.name (tokens_of l.fn.text) (spots_left l.tokens) l.seen

abbrev pub decreases-reading : goal.decreases-reading
decreases-reading l = bytes_left l.tokens
