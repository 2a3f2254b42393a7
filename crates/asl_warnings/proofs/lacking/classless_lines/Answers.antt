use Rattle.std.proofs.Common.{refl, arith}
use Rattle.asl_class_text.proofs.Made.{none_made, more_made, all_made}
use Rattle.asl_warnings.proofs.lacking.classless_lines.Goals as goal

pub loop-pc-init : goal.loop-pc-init
loop-pc-init c = none_made _ _ _ _ c.new-text.ensures.bytes

pub loop-pc-preserved : goal.loop-pc-preserved
loop-pc-preserved c = more_made _ _ _ _ _ _ _ _ c.loop-pc-test.true refl c.in_ok-push_classless.ensures c.loop-pc.invariant

pub returns : goal.returns
returns c = all_made _ _ _ _ _ (omega arith) c.loop-pc.invariant
