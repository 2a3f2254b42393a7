use Rattle.std.proofs.Common.{arith}
use Rattle.asl_lower.specs.LegalLowering.{lowered_of}
use Rattle.asl_lower.proofs.Told.{start_within}
use Rattle.asl_lower.proofs.lowering.Lowering.start.Goals as goal

pub start-requires-clause-layout : goal.start-requires-clause-layout
start-requires-clause-layout c = c.self.invariant.layout

pub overflow_cast-result : goal.overflow_cast-result
overflow_cast-result c =
    let l = lowered_of c.self.inside.draft in
    omega (arith, start_within l c.self.invariant.layout c.from.result, c.start.ensures, c.self.invariant.size)
