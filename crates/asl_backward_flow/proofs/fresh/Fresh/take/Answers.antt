use Rattle.std.proofs.Common.{refl}
use Rattle.asl_backward_flow.proofs.Freshness.{not_told}
use Rattle.asl_backward_flow.proofs.Keeping.{given_again, given_first}
use Rattle.asl_backward_flow.proofs.fresh.Fresh.take.Goals as goal

pub returns-then-is_followed : goal.returns-then-is_followed
returns-then-is_followed c =
    given_again c.args.self.now c.take_kept-kept.new.self c.give.new.self c.args.place c.args.found.now c.give.new.into _ c.take_kept-kept.ensures.followed c.give.ensures.followed c.give.ensures.sets
    (c.is_followed.ensures.0 c.if-is_followed.true) c.take_kept-kept.ensures.set c.take_kept-kept.ensures.none c.take_kept-kept.ensures.rest c.in_ok-give.ensures.set

pub returns : goal.returns
returns c =
    given_first c.args.self.now c.take_kept-kept.new.self _ c.args.place c.args.found.now c.copy_from.new.self c.take_kept-kept.ensures.followed c.in_ok-add_number.ensures refl
    (not_told c.is_followed.result _ c.is_followed.ensures c.if-is_followed.false) c.take_kept-kept.ensures.none c.take_kept-kept.ensures.rest c.in_ok-copy_from.ensures.ok
