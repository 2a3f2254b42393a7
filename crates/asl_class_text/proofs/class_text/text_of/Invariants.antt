use Rattle.std.proofs.Common.{[], string_bytes}
use Rattle.asl_class_text.specs.Texts.{class_lines}
use Rattle.asl_class_text.proofs.Made.{Made}
use Rattle.asl_class_text.proofs.class_text.text_of.Given as goal

abbrev pub invariant-loop-number : goal.invariant-loop-number
invariant-loop-number l = Made (class_lines l.facts l.all) l.classes l.number [] (string_bytes l.text)
