use Rattle.std.proofs.Common.{string_bytes}
use Rattle.asl_show.specs.Objects.{cell_line, cell_count}
use Rattle.asl_show.proofs.Lines.{Written}
use Rattle.asl_show.proofs.objects.push_object.Given as goal

abbrev pub invariant-loop-offset : goal.invariant-loop-offset
invariant-loop-offset l = Written (cell_line l.machine.state l.object) l.offset (cell_count l.machine.state l.object) (string_bytes l.initial.text) (string_bytes l.text)
