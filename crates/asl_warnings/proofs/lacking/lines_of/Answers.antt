use Rattle.std.proofs.Common.{refl, arith}
use Rattle.asl_class_text.proofs.Made.{more_flat, all_flat}
use Rattle.asl_warnings.proofs.Lines.{begun_flat}
use Rattle.asl_warnings.proofs.lacking.lines_of.Goals as goal

pub loop-area-init : goal.loop-area-init
loop-area-init c = begun_flat _ _ _ c.new-lines.ensures.items

pub loop-area-preserved : goal.loop-area-preserved
loop-area-preserved c = more_flat _ _ _ _ _ _ _ _ c.loop-area-test.true refl c.in_ok-push_if.ensures c.loop-area.invariant

pub returns : goal.returns
returns c = all_flat _ _ _ _ _ (omega arith) c.loop-area.invariant
