use Rattle.asl_journal.proofs.Pauses.{again_fits}
use Rattle.asl_journal.proofs.journaled.Journaled.resume.Goals as goal

pub invariant_of-result : goal.invariant_of-result
invariant_of-result c =
    let fits = rw (← c.paused.view_is) at c.requires.fits in
    again_fits c.args.program.now c.resume.result c.paused.inside.machine c.paused.inside.events.items fits.journal c.resume.ensures.image c.resume.ensures.state
