use Rattle.std.proofs.Common.{string_bytes, length}
use Rattle.asl_show.specs.Objects.{object_text}
use Rattle.asl_show.proofs.Lines.{Written}
use Rattle.asl_show.proofs.objects.push_cells.Given as goal

abbrev pub invariant-loop-object : goal.invariant-loop-object
invariant-loop-object l = Written (object_text l.machine.state) l.object (length l.machine.state.objects) (string_bytes l.initial.text) (string_bytes l.text)
