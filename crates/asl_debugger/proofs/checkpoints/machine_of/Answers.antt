use Rattle.asl_debugger.proofs.checkpoints.machine_of.Goals as goal

pub resume-requires : goal.resume-requires
resume-requires g c = record { fits = rw c.in_ok-copy_rest.ensures.equal c.requires }
