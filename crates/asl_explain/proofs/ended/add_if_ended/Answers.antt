use Rattle.std.proofs.Common.{◌≡◌, true, false}
use Rattle.asl_explain.specs.Analysed.{read}
use Rattle.asl_explain.specs.Endings.{EndsSomewhere}
use Rattle.asl_explain.proofs.Dropping.{added_one, added_not}
use Rattle.asl_explain.proofs.ended.add_if_ended.Goals as goal

pub returns-then-not-ends : goal.returns-then-not-ends
returns-then-not-ends c =
    added_not (EndsSomewhere (read c.args.analysis.now) c.args.at.number) _ c.args.lock.now c.requires.order
    (λ so. (let t : c.ends.result ≡ true = c.ends.ensures.1 so in let n : c.ends.result ≡ false = c.if-not-ends.true in cc))

pub returns : goal.returns
returns c =
    added_one (EndsSomewhere (read c.args.analysis.now) c.args.at.number) _ c.add_in_order.new.locks.items c.args.lock.now c.in_ok-copied.field-0 c.add_in_order.ensures.order c.in_ok-add_in_order.ensures.locks c.in_ok-copied.ensures
    (c.ends.ensures.0 c.if-not-ends.false)
