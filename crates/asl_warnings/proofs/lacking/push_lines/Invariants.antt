-- what is made so far
use Rattle.std.proofs.Common.{string_bytes}
use Rattle.asl_class_text.proofs.Made.{Made}
use Rattle.asl_warnings.specs.Texts.{listed_line}
use Rattle.asl_warnings.proofs.lacking.push_lines.Given as goal

abbrev pub invariant-loop-number : goal.invariant-loop-number
invariant-loop-number l = Made listed_line l.lines l.number (string_bytes l.initial.text) (string_bytes l.text)
