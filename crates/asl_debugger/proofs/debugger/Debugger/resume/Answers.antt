use Rattle.asl_debugger.proofs.Positions.{is_at}
use Rattle.asl_debugger.proofs.debugger.Debugger.resume.Goals as goal

pub invariant_of-result : goal.invariant_of-result
invariant_of-result c =
    let fits = rw (← c.paused.view_is) at c.requires.fits in
    rw (is_at c.resume.result c.args.program.now c.paused.inside.machine.state c.resume.ensures.image c.resume.ensures.state) fits.kept
