use Rattle.std.proofs.Common.{string_bytes, length}
use Rattle.asl_show.specs.View.{fresh_line}
use Rattle.asl_show.proofs.Lines.{Written}
use Rattle.asl_show.proofs.view.push_fresh_of.Given as goal

abbrev pub invariant-loop-object : goal.invariant-loop-object
invariant-loop-object l = Written (fresh_line l.machine.state l.t) l.object (length l.machine.state.objects) (string_bytes l.initial.text) (string_bytes l.text)
