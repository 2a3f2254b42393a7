use Rattle.std.proofs.Common.{◌≡◌, drop}
use Rattle.asl_lock_forest.specs.Holding.{asked}
use Rattle.asl_lock_queue.proofs.queue.listed.Given as goal

abbrev pub invariant-loop-ask : goal.invariant-loop-ask
invariant-loop-ask l = asked (drop l.ask-index l.own) l.node ≡ asked l.own l.node
