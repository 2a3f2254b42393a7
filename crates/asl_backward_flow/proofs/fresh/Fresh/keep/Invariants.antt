use Rattle.std.proofs.Common.{◌≡◌, ◌+◌, ◌-◌, ℕ, length}
use Rattle.asl_backward_flow.specs.Fresh.{kept_at}
use Rattle.asl_backward_flow.proofs.fresh.Fresh.keep.Given as goal

abbrev pub invariant-loop-self : goal.invariant-loop-self
invariant-loop-self l = record {
  followed : l.self.followed ≡ l.fn.self.followed;
  kept : (k : ℕ) → kept_at l.self k ≡ kept_at l.fn.self k;
}

abbrev pub decreases-loop-self : goal.decreases-loop-self
decreases-loop-self l = l.place + 1 - length l.self.sets.items
