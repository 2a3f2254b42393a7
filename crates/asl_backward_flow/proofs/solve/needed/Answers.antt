use Rattle.asl_backward_flow.proofs.Tellings.{flow_told}
use Rattle.asl_backward_flow.proofs.solve.needed.Goals as goal

pub returns-clause-flow : goal.returns-clause-flow
returns-clause-flow c = flow_told _ c.in_ok-writes.ensures c.flow.result c.flow.ensures.ok
