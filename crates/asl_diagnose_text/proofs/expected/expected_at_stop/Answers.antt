use Rattle.std.proofs.Common.{length}
use Rattle.asl_diagnose_text.specs.WalkView.{walk_place}
use Rattle.asl_diagnose_text.proofs.Goes.{is_stop}
use Rattle.asl_diagnose_text.proofs.expected.expected_at_stop.Goals as goal

pub returns : goal.returns
returns c =
    λ at fault. is_stop c.args.text.now (length c.args.text.now) at (walk_place c.in_ok-walk.walk) c.in_ok-accepted.field-0.items c.may_end.result c.in_ok-walk.ensures c.in_ok-accepted.ensures.listed c.in_ok-accepted.ensures.once c.may_end.ensures fault
