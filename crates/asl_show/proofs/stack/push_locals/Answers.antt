use Rattle.std.proofs.Common.{arith}
use Rattle.asl_show.proofs.Lines.{none_written, more_written, all_written}
use Rattle.asl_show.proofs.stack.push_locals.Goals as goal

pub loop-register-init : goal.loop-register-init
loop-register-init c = none_written _ _ _

pub loop-register-preserved : goal.loop-register-preserved
loop-register-preserved c = more_written _ _ _ _ _ _ (omega arith) c.in_ok-push_local.ensures c.loop-register.invariant

pub returns : goal.returns
returns c = all_written _ _ _ _ _ (omega arith) c.loop-register.invariant
