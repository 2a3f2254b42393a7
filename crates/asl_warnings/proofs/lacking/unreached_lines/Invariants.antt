-- what is made so far
use Rattle.std.proofs.Common.{[], string_bytes}
use Rattle.asl_class_text.proofs.Made.{Made}
use Rattle.asl_warnings.specs.Texts.{unreached_line}
use Rattle.asl_warnings.proofs.lacking.unreached_lines.Given as goal

abbrev pub invariant-loop-number : goal.invariant-loop-number
invariant-loop-number l = Made (unreached_line l.facts) l.functions l.number [] (string_bytes l.text)
