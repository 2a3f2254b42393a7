use Rattle.std.proofs.Common.{sym}
use Rattle.asl_explain.specs.Analysed.{read}
use Rattle.asl_explain.proofs.Needing.{listed_more, taken_more}
use Rattle.asl_explain.proofs.making.all_listed.Goals as goal

pub loop-lock-preserved : goal.loop-lock-preserved
loop-lock-preserved c = record {
  listed = listed_more (read c.args.analysis.now) c.args.number c.args.section _ _ c.lock-item.result c.loop-lock.listed_locks.items c.push.new.self.items c.in_ok-list_lock.field-0 c.in_ok-push.ensures.items
      (taken_more c.args.list.now c.loop-lock.lock-index c.lock-item.result c.lock-item.result c.loop-lock-test.true (sym c.lock-item.is)) c.in_ok-list_lock.ensures.lock c.loop-lock.invariant.listed c.in_ok-list_lock.ensures.listed;
  known = c.in_ok-list_lock.ensures.known;
}
