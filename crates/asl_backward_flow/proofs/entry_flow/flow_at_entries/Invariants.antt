use Rattle.std.proofs.Common.{◌≤◌, ◌-◌, vec_len}
use Rattle.asl_backward_flow.specs.Follows.{read}
use Rattle.asl_backward_flow.specs.Grouped.{AreEntryParts, HasFewInBodies}
use Rattle.asl_backward_flow.proofs.entry_flow.flow_at_entries.Given as goal

abbrev pub invariant-loop-alloc : goal.invariant-loop-alloc
invariant-loop-alloc l = AreEntryParts (read l.fn.analysis) l.fn.analysis.spans.now l.parts.items × HasFewInBodies (read l.fn.analysis) × (vec_len l.parts ≤ l.count)

abbrev pub decreases-loop-alloc : goal.decreases-loop-alloc
decreases-loop-alloc l = l.count - vec_len l.parts
