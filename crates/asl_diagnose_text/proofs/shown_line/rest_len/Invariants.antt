use Rattle.std.proofs.Common.{◌≡◌, ◌+◌, drop}
use Rattle.asl_diagnose_text.specs.Shown.{line_len}
use Rattle.asl_diagnose_text.proofs.shown_line.rest_len.Given as goal

abbrev pub invariant-loop-at : goal.invariant-loop-at
invariant-loop-at l = line_len l.text ≡ l.at + line_len (drop l.at l.text)
