use Rattle.asl_grammar.specs.Reader.{bytes_left, spots_left}
use Rattle.asl_diagnose_text.specs.Statements.{beginnings}
use Rattle.asl_diagnose_text.proofs.Beginnings.{IsCounting}
use Rattle.asl_diagnose_text.proofs.statements.are_so_many.Given as goal

abbrev pub invariant-reading : goal.invariant-reading
invariant-reading l = IsCounting l.from l.to l.count (beginnings l.fn.text) l.is_start (spots_left l.tokens) l.left

abbrev pub decreases-reading : goal.decreases-reading
decreases-reading l = bytes_left l.tokens
