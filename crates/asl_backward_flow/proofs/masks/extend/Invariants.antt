use Rattle.std.proofs.Common.{◌≡◌, ◌-◌, length}
use Rattle.asl_lock_expr.specs.LinksView.{seen}
use Rattle.asl_backward_flow.specs.Masked.{IsMask}
use Rattle.asl_backward_flow.proofs.masks.extend.Given as goal

abbrev pub invariant-loop-mask : goal.invariant-loop-mask
invariant-loop-mask l = record {
  mask : IsMask (seen l.view) l.locks l.mask;
  touch : l.mask.touch ≡ l.initial.mask.touch;
}

abbrev pub decreases-loop-mask : goal.decreases-loop-mask
decreases-loop-mask l = length l.locks - l.mask.below
