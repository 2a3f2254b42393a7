-- what has been merged so far
use Rattle.std.proofs.Common.{◌≡◌, ◌+◌, if◌then◌else◌, is_some}
use Rattle.asl_points_to.specs.Classes.{Classed}
use Rattle.asl_points_to.specs.Draft.{class_in, filled, IsDraft, IsForced, IsMerged, IsForcedMerge}
use Rattle.asl_points_to.proofs.class_draft.ClassDraft.unify.Given as goal

abbrev pub invariant-loop-next : goal.invariant-loop-next
invariant-loop-next l = record {
  draft : IsDraft l.self;
  merged : IsMerged l.fn.self l.self l.fn.left l.fn.right l.next;
  forced : (c : Classed) → IsForced c l.fn.self → class_in c l.fn.left ≡ class_in c l.fn.right → IsForcedMerge c l.self l.next;
}

abbrev pub decreases-loop-next : goal.decreases-loop-next
decreases-loop-next l = filled l.self.cells.items + (if is_some l.next then 1 else 0)
