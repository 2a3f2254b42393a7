-- so many steps leave the two apart, and so many join them
use Rattle.std.proofs.Common.{◌<◌, ◌≤◌, ◌-◌, length, take}
use Rattle.asl_class_reasons.specs.Reasons.{Joined}
use Rattle.asl_class_reasons.proofs.reasons.Reasons.joining_steps.Given as goal

abbrev pub invariant-loop-joined : goal.invariant-loop-joined
invariant-loop-joined l = record {
  order : l.apart < l.joined;
  there : l.joined ≤ length l.self.steps;
  apart : Joined (take l.apart l.self.steps) l.from l.into → ⊥;
  joined : Joined (take l.joined l.self.steps) l.from l.into;
}

abbrev pub decreases-loop-joined : goal.decreases-loop-joined
decreases-loop-joined l = l.joined - l.apart
