-- the chain so far
use Rattle.std.proofs.Common.{List, take}
use Rattle.asl_lower.specs.Lowered.{Lowered}
use Rattle.asl_class_reasons.specs.declared.place.Step.{Step}
use Rattle.asl_class_reasons.specs.Reasons.{IsChain, AreReasonedBy}
use Rattle.asl_class_reasons.specs.Following.{AreFollowing}
use Rattle.asl_class_reasons.proofs.following.picked.Given as goal

abbrev pub invariant-loop-number : goal.invariant-loop-number
invariant-loop-number l = record {
  reasoned : (p : Lowered) (es : List Step) → AreFollowing p es l.items → AreReasonedBy p (take l.before es) l.steps.items;
  chain : IsChain l.steps.items l.fn.from l.links.items l.at;
}
