use Rattle.std.proofs.Common.{sym, subst}
use Rattle.asl.specs.Process.{EndsProcess}
use Rattle.asl.proofs.process.run_process.Goals as goal

pub returns-clause-ends : goal.returns-clause-ends
returns-clause-ends g c = subst (EndsProcess _ _ _ _ _ _ _ _) (sym c.from.ensures) c.words_status-status.ensures.ends
