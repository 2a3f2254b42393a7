use Rattle.std.proofs.Common.{◌≡◌, ◌++◌, string_bytes}
use Rattle.asl_tool.specs.Output.{event_lines}
use Rattle.asl_tool.proofs.Lines.{left_lines}
use Rattle.asl_tool.proofs.journal_output.lines_of.Given as goal

-- the lines so far, and then those that are left, are all lines
abbrev pub invariant-loop-number : goal.invariant-loop-number
invariant-loop-number l = string_bytes l.text ++ left_lines l.events l.number ≡ event_lines 0 l.events
