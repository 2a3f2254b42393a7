use Rattle.std.proofs.Common.{take}
use Rattle.asl_journal.specs.Journal.{AreThere}
use Rattle.asl_journal.proofs.journal.are_there.Given as goal

abbrev pub invariant-loop-event : goal.invariant-loop-event
invariant-loop-event l = AreThere l.n (take l.event-index l.events)
