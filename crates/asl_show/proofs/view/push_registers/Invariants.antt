use Rattle.std.proofs.Common.{string_bytes}
use Rattle.asl_show.specs.View.{register_at}
use Rattle.asl_show.proofs.Lines.{Written}
use Rattle.asl_show.proofs.view.push_registers.Given as goal

abbrev pub invariant-loop-register : goal.invariant-loop-register
invariant-loop-register l = Written (register_at l.machine.state l.t) l.register (64) (string_bytes l.initial.text) (string_bytes l.text)
