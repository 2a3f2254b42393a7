use Rattle.std.proofs.Common.{◌≡◌, drop}
use Rattle.asl_lock_forest.specs.Holding.{asked}
use Rattle.asl_show.proofs.clash_lines.mode_in.Given as goal

abbrev pub invariant-loop-ask : goal.invariant-loop-ask
invariant-loop-ask l = asked (drop l.ask-index l.request) l.node ≡ asked l.request l.node
