use Rattle.std.proofs.Common.{arith}
use Rattle.asl_explain.specs.Told.{ended_lines}
use Rattle.asl_explain.specs.Telling.{given}
use Rattle.asl_explain.proofs.Piecing.{flat_none, flat_more, flat_all}
use Rattle.asl_explain.proofs.text.Teller.push_ended.Goals as goal

pub loop-end-init : goal.loop-end-init
loop-end-init c = flat_none _ _ _

pub loop-end-preserved : goal.loop-end-preserved
loop-end-preserved c =
    flat_more (ended_lines c.args.self.now.all (given c.args.self.now).facts c.args.function) c.args.ended.now c.loop-end.end-index _ _ _ _ _ c.loop-end-test.true c.end-item.is c.loop-end.invariant c.in_ok-push_end.ensures

pub returns : goal.returns
returns c = flat_all (ended_lines c.args.self.now.all (given c.args.self.now).facts c.args.function) c.args.ended.now c.loop-end.end-index _ _ (omega arith) c.loop-end.invariant
