-- what is made so far
use Rattle.std.proofs.Common.{[], string_bytes}
use Rattle.asl_class_text.proofs.Made.{Made}
use Rattle.asl_warnings.specs.Texts.{classless_line}
use Rattle.asl_warnings.proofs.lacking.classless_lines.Given as goal

abbrev pub invariant-loop-pc : goal.invariant-loop-pc
invariant-loop-pc l = Made (classless_line l.known.facts l.known.classes) l.code l.pc [] (string_bytes l.text)
