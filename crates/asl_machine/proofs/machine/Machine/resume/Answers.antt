use Rattle.asl_machine.proofs.machine.Machine.resume.Goals as goal

pub invariant_of-result : goal.invariant_of-result
invariant_of-result c =
    let fits = rw (← c.paused.view_is) at c.requires.fits in
    rw c.from_firsts.ensures fits.machine
