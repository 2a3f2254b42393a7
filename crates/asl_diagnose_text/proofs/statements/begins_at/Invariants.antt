use Rattle.asl_grammar.specs.Reader.{bytes_left, spots_left}
use Rattle.std.specs.List.{Contains}
use Rattle.asl_diagnose_text.specs.Statements.{beginnings}
use Rattle.asl_diagnose_text.proofs.Beginnings.{begun}
use Rattle.asl_diagnose_text.proofs.statements.begins_at.Given as goal

abbrev pub invariant-reading : goal.invariant-reading
invariant-reading l = Contains (begun l.is_start (spots_left l.tokens)) l.at → Contains (beginnings l.fn.text) l.at

abbrev pub decreases-reading : goal.decreases-reading
decreases-reading l = bytes_left l.tokens
