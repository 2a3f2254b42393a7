use Rattle.std.proofs.Common.{string_bytes, length}
use Rattle.asl_show.specs.Nodes.{clash_at}
use Rattle.asl_show.proofs.Lines.{Written}
use Rattle.asl_show.proofs.clash_lines.push_clashes_at.Given as goal

abbrev pub invariant-loop-other : goal.invariant-loop-other
invariant-loop-other l = Written (clash_at l.machine.state l.t l.node l.mode l.name) l.other (length l.machine.state.threads) (string_bytes l.initial.text) (string_bytes l.text)
