use Rattle.asl_probe_machine.proofs.machine.rested.Goals as goal

pub resume-requires : goal.resume-requires
resume-requires c = record { fits = rw c.program-program.ensures c.pause.ensures.fits }
