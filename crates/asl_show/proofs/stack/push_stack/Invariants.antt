use Rattle.std.proofs.Common.{string_bytes, length}
use Rattle.asl_show.specs.Stack.{stack_of}
use Rattle.asl_show.proofs.Lines.{Written}
use Rattle.asl_show.proofs.stack.push_stack.Given as goal

abbrev pub invariant-loop-t : goal.invariant-loop-t
invariant-loop-t l = Written (stack_of l.machine.state) l.t (length l.machine.state.threads) (string_bytes l.initial.text) (string_bytes l.text)
