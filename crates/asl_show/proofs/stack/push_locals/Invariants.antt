use Rattle.std.proofs.Common.{string_bytes}
use Rattle.asl_show.specs.Stack.{local_at}
use Rattle.asl_show.proofs.Lines.{Written}
use Rattle.asl_show.proofs.stack.push_locals.Given as goal

abbrev pub invariant-loop-register : goal.invariant-loop-register
invariant-loop-register l = Written (local_at l.machine.state l.t l.index) l.register (64) (string_bytes l.initial.text) (string_bytes l.text)
