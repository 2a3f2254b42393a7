use Rattle.std.proofs.Common.{arith}
use Rattle.asl_tool.proofs.Sessions.{one_told, all_told}
use Rattle.asl_tool.proofs.commands.debug.talk.Goals as goal

pub loop-word-preserved : goal.loop-word-preserved
loop-word-preserved c = one_told _ _ _ _ _ _ _ _ (omega arith) c.loop-word.invariant c.in_ok-obey.ensures

pub returns : goal.returns
returns c = all_told _ _ _ _ _ (omega arith) c.loop-word.invariant
