use Rattle.std.proofs.Common.{rules, inl}
use Rattle.asl_lane_sets.specs.NumberSet.{IsIn}
use Rattle.asl_backward_flow.specs.Found.{AreSome}
use Rattle.asl_backward_flow.proofs.Freshness.{not_told, fresher_first}
use Rattle.asl_backward_flow.proofs.region_needs.merge_fresh.Goals as goal

pub returns-in_err-is_new-clause-err : goal.returns-in_err-is_new-clause-err
returns-in_err-is_new-clause-err c =
    let some : AreSome c.args.needs.now.items c.merge.new.sets.items c.args.place (IsIn c.args.numbers.now) = inl c.in_err-is_new.ensures.err in
    search (rules, some)

pub returns-clause-fresh : goal.returns-clause-fresh
returns-clause-fresh c =
    fresher_first c.args.fresh.now c.args.needs.now.items c.merge.new.sets.items c.args.place (IsIn c.args.numbers.now) c.in_ok-is_new.is_new c.requires.there c.in_ok-is_new.ensures.marked
    (not_told c.is_followed.result _ c.is_followed.ensures c.if-is_followed.false)
