-- the sections so far, and those that are to be passed
use Rattle.std.proofs.Common.{◌≡◌, ◌+◌}
use Rattle.asl_lower.specs.OpenSections.{sections_before}
use Rattle.asl_c_programs.proofs.tables.entered.Given as goal

abbrev pub invariant-loop-place : goal.invariant-loop-place
invariant-loop-place l = sections_before l.code l.place + l.left ≡ l.number
