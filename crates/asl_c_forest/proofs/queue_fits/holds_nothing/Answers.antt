use Rattle.std.proofs.Common.{sym, ◌∙◌}
use Rattle.asl_c_forest.proofs.Laws.{holds_nothing_of}
use Rattle.asl_c_forest.proofs.queue_fits.holds_nothing.Goals as goal

pub returns-in-NL-clause-told : goal.returns-in-NL-clause-told
returns-in-NL-clause-told c _ = holds_nothing_of c.args.queue.now.holding c.args.thread c.mode.ensures.queue.forest.lawful (sym c.mode.ensures.value ∙ c.in-NL.is)
