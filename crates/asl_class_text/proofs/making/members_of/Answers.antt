use Rattle.std.proofs.Common.{refl, arith}
use Rattle.asl_class_text.proofs.Made.{none_made, more_made, all_made}
use Rattle.asl_class_text.proofs.making.members_of.Goals as goal

pub loop-member-init : goal.loop-member-init
loop-member-init c = none_made _ _ _ _ c.new-members.ensures.items

pub loop-member-preserved : goal.loop-member-preserved
loop-member-preserved c = more_made _ _ _ _ _ _ _ _ c.loop-member-test.true refl c.in_ok-push_if.ensures c.loop-member.invariant

pub returns : goal.returns
returns c = all_made _ _ _ _ _ (omega arith) c.loop-member.invariant
