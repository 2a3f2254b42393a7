use Rattle.std.proofs.Common.{[]}
use Rattle.asl_backward_flow.specs.Found.{table, locks_of}
use Rattle.asl_backward_flow.specs.Parts.{IsNumbered, ListsBelow}
use Rattle.asl_backward_flow.proofs.found.Found.named.Given as goal

abbrev pub invariant-loop-number : goal.invariant-loop-number
invariant-loop-number l = ListsBelow (IsNumbered (locks_of (table l.self) l.part) l.number-items) l.number-index [] l.locks.items
