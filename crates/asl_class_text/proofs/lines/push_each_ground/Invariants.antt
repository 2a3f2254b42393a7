use Rattle.std.proofs.Common.{string_bytes}
use Rattle.asl_class_text.specs.Texts.{ground_lines}
use Rattle.asl_class_text.proofs.Made.{Flat}
use Rattle.asl_class_text.proofs.lines.push_each_ground.Given as goal

abbrev pub invariant-loop-ground : goal.invariant-loop-ground
invariant-loop-ground l = Flat (ground_lines l.facts l.indent) l.grounds l.ground-index (string_bytes l.initial.text) (string_bytes l.text)
