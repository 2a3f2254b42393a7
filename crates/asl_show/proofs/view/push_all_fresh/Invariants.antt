use Rattle.std.proofs.Common.{string_bytes, length}
use Rattle.asl_show.specs.View.{fresh_text}
use Rattle.asl_show.proofs.Lines.{Written}
use Rattle.asl_show.proofs.view.push_all_fresh.Given as goal

abbrev pub invariant-loop-t : goal.invariant-loop-t
invariant-loop-t l = Written (fresh_text l.machine.state) l.t (length l.machine.state.threads) (string_bytes l.initial.text) (string_bytes l.text)
