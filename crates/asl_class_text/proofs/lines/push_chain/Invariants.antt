use Rattle.std.proofs.Common.{string_bytes}
use Rattle.asl_class_text.specs.Texts.{step_line}
use Rattle.asl_class_text.proofs.Made.{Flat}
use Rattle.asl_class_text.proofs.lines.push_chain.Given as goal

abbrev pub invariant-loop-told : goal.invariant-loop-told
invariant-loop-told l = Flat (step_line l.facts) l.chain l.told-index (string_bytes l.initial.text) (string_bytes l.text)
