use Rattle.std.proofs.Common.{sym}
use Rattle.asl_explain.specs.Analysed.{read}
use Rattle.asl_explain.proofs.Dropping.{ended_more}
use Rattle.asl_explain.proofs.Needing.{taken_more}
use Rattle.asl_explain.proofs.ended.all_ended.Goals as goal

pub loop-lock-preserved : goal.loop-lock-preserved
loop-lock-preserved c =
    ended_more (read c.args.analysis.now) c.args.number _ _ c.lock-item.result c.loop-lock.ended.items c.push.new.self.items c.in_ok-find_ended.field-0 c.in_ok-push.ensures.items
    (taken_more c.args.locks.now c.loop-lock.lock-index c.lock-item.result c.lock-item.result c.loop-lock-test.true (sym c.lock-item.is)) c.in_ok-find_ended.ensures.lock c.loop-lock.invariant c.in_ok-find_ended.ensures.told
