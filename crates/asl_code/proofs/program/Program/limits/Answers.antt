use Rattle.asl_code.proofs.FitsLaws.{image_fits}
use Rattle.asl_code.proofs.program.Program.limits.Goals as goal

pub unreachable-requires : goal.unreachable-requires
unreachable-requires c = c.in-None.ensures.unknown (image_fits c.self.inside.image c.self.invariant).version
