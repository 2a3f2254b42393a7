use Rattle.asl_journal.proofs.Pauses.{left_fits}
use Rattle.asl_journal.proofs.journaled.Journaled.pause.Goals as goal

pub returns-clause-fits : goal.returns-clause-fits
returns-clause-fits c =
    rw (← c.self.view_is) (record { machine = c.pause.ensures.fits; journal = left_fits c.self.inside.machine c.pause.result c.self.inside.events.items c.self.invariant c.pause.ensures.state })
