use Rattle.asl_grammar.specs.Reader.{bytes_left, spots_left}
use Rattle.std.specs.List.{Contains}
use Rattle.asl_diagnose_text.specs.Statements.{endings}
use Rattle.asl_diagnose_text.proofs.Beginnings.{to_end}
use Rattle.asl_diagnose_text.proofs.statements.ends_at.Given as goal

abbrev pub invariant-reading : goal.invariant-reading
invariant-reading l = Contains (to_end l.is_begun l.is_start (spots_left l.tokens)) l.at → Contains (endings l.fn.text) l.at

abbrev pub decreases-reading : goal.decreases-reading
decreases-reading l = bytes_left l.tokens
