use Rattle.asl_lower.specs.LegalLowering.{lowered_of}
use Rattle.asl_lower.proofs.lowering.Lowering.inner.Goals as goal

pub inner_functions-requires : goal.inner_functions-requires
inner_functions-requires c = c.self.invariant.layout
