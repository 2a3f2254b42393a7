use Rattle.std.proofs.Common.{◌≡◌, vec_len}
use Rattle.asl_backward_flow.specs.Follows.{read}
use Rattle.asl_backward_flow.specs.Grouped.{AreEntryParts}
use Rattle.asl_backward_flow.proofs.entry_flow.keep_entries.Given as goal

abbrev pub invariant-loop-number : goal.invariant-loop-number
invariant-loop-number l = AreEntryParts (read l.fn.analysis) l.fn.group l.parts.items × (vec_len l.parts ≡ vec_len l.fn.parts)
