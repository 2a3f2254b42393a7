use Rattle.asl_class_text.proofs.Members.{known_joined}
use Rattle.asl_class_text.proofs.reasoned.reasoned_with.Goals as goal

pub following-requires : goal.following-requires
following-requires c = record {
  members = c.in_ok-reasons.ensures.members;
  functions = c.in_ok-reasons.ensures.functions;
  reasons = c.in_ok-reasons.ensures.all.reasons;
}

pub invariant_of-result : goal.invariant_of-result
invariant_of-result c = (
  c.in_ok-known.ensures.few,
  record {
    members = c.in_ok-reasons.ensures.members;
    functions = c.in_ok-reasons.ensures.functions;
    reasons = c.in_ok-reasons.ensures.all.reasons;
  },
  c.in_ok-following.ensures,
  known_joined c.args.source.now c.in_ok-known.known c.in_ok-reasons.reasons.steps c.in_ok-known.ensures.known c.in_ok-reasons.ensures.all,
)
