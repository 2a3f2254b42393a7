use Rattle.std.proofs.Common.{string_bytes, length}
use Rattle.asl_show.specs.Asks.{asks_of}
use Rattle.asl_show.proofs.Lines.{Written}
use Rattle.asl_show.proofs.request_lines.push_asks.Given as goal

abbrev pub invariant-loop-t : goal.invariant-loop-t
invariant-loop-t l = Written (asks_of l.machine) l.t (length l.machine.state.threads) (string_bytes l.initial.text) (string_bytes l.text)
