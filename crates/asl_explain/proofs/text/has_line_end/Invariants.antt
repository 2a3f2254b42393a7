use Rattle.std.proofs.Common.{◌≡◌, drop}
use Rattle.asl_explain.specs.Told.{has_line_end}
use Rattle.asl_explain.proofs.text.has_line_end.Given as goal

abbrev pub invariant-loop-byte : goal.invariant-loop-byte
invariant-loop-byte l = has_line_end (drop l.byte-index l.byte-items) ≡ has_line_end l.byte-items
