use Rattle.asl_check.specs.KnownLists.{StandInTurn}
use Rattle.asl_check.proofs.Bare.{AreKept}
use Rattle.asl_check.proofs.bare_locks.bare_locks.Given as goal

abbrev pub invariant-loop-lock : goal.invariant-loop-lock
invariant-loop-lock l = record {
  kept : AreKept l.classes l.function l.list l.locks l.lock-index l.bare.keys;
  order : StandInTurn l.locks l.bare.keys;
}
