use Rattle.std.proofs.Common.{◌≡◌, length}
use Rattle.asl_runner.specs.Comparing.{HaveCome}
use Rattle.asl_runner.proofs.compare.wrong_worker.Given as goal

abbrev pub invariant-loop-index : goal.invariant-loop-index
invariant-loop-index l = (length l.next ≡ 8) × HaveCome l.workers l.report.machine.state l.report.journal.events l.report.receipts.items l.next l.index
