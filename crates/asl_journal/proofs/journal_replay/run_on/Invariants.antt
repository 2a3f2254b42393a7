use Rattle.asl_journal.proofs.Replays.{HasFollowed}
use Rattle.asl_journal.proofs.journal_replay.run_on.Given as goal

abbrev pub invariant-loop-index : goal.invariant-loop-index
invariant-loop-index g l = HasFollowed l.fn.machine l.machine l.events l.index
