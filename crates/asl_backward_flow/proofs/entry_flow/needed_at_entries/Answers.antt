use Rattle.asl_backward_flow.proofs.Grouping.{entry_flow_told}
use Rattle.asl_backward_flow.proofs.entry_flow.needed_at_entries.Goals as goal

pub returns-clause-flow : goal.returns-clause-flow
returns-clause-flow c = entry_flow_told _ c.in_ok-writes.ensures c.flow_at_entries.result c.flow_at_entries.ensures.ok
