use Rattle.std.proofs.Common.{◌≡◌, ◌++◌, string_bytes}
use Rattle.asl_c_sessions.specs.Pages.{event_lines}
use Rattle.asl_c_sessions.proofs.Lines.{left_lines}
use Rattle.asl_c_sessions.proofs.pages.lines_from.Given as goal

-- the lines so far, and then those that are left, are all lines
abbrev pub invariant-loop-index : goal.invariant-loop-index
invariant-loop-index l = string_bytes l.text ++ left_lines l.first l.events l.index ≡ event_lines l.first l.events
