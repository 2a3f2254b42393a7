use Rattle.std.proofs.Common.{map}
use Rattle.asl_backward_flow.specs.Found.{table, Waits, left}
use Rattle.asl_backward_flow.specs.Follows.{read, IsFollowed}
use Rattle.asl_backward_flow.specs.Masked.{AreAllMasks}
use Rattle.asl_backward_flow.proofs.following.follow_all.Given as goal

abbrev pub invariant-loop-scratch : goal.invariant-loop-scratch
invariant-loop-scratch l = record {
  followed : IsFollowed (read l.analysis) (table l.found) (Waits (table l.found));
  masks : AreAllMasks (read l.analysis) (table l.found) (map (λ v. v.list.items) l.scratch.masks.items);
}

abbrev pub decreases-loop-scratch : goal.decreases-loop-scratch
decreases-loop-scratch l = left (table l.found)
