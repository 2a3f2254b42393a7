use Rattle.std.proofs.Common.{◌∙◌, rules, true, false, inl, inr, refl, sym, subst}
use Rattle.asl_lane_sets.specs.NumberSet.{IsIn}
use Rattle.asl_backward_flow.specs.Found.{IsMarked, AreSome}
use Rattle.asl_backward_flow.proofs.Marks.{get_here}
use Rattle.asl_backward_flow.proofs.Freshness.{fresher_back, fresher_others}
use Rattle.asl_backward_flow.proofs.region_needs.merge_again.Goals as goal

pub returns-in_err-is_new-clause-err : goal.returns-in_err-is_new-clause-err
returns-in_err-is_new-clause-err c =
    let some : AreSome c.args.needs.now.items c.merge.new.sets.items c.args.place (IsIn c.args.numbers.now) = inl c.in_err-is_new.ensures.err in
    search (rules, some)

pub returns-in_err-put_all-clause-err : goal.returns-in_err-put_all-clause-err
returns-in_err-put_all-clause-err c =
    let some : AreSome c.args.needs.now.items c.merge.new.sets.items c.args.place (IsIn c.args.numbers.now) = inr (c.in_ok-is_new.is_new, c.in_ok-is_new.ensures.marked) in
    search (rules, some)

pub returns-in_err-give_back-clause-err : goal.returns-in_err-give_back-clause-err
returns-in_err-give_back-clause-err c =
    let some : AreSome c.args.needs.now.items c.merge.new.sets.items c.args.place (IsIn c.args.numbers.now) = inr (c.in_ok-is_new.is_new, c.in_ok-is_new.ensures.marked) in
    search (rules, some)

pub returns-then-is_new-clause-marked : goal.returns-then-is_new-clause-marked
returns-then-is_new-clause-marked c = subst (IsMarked c.args.needs.now.items c.merge.new.sets.items c.args.place (IsIn c.args.numbers.now)) c.if-is_new.true c.in_ok-is_new.ensures.marked

pub returns-then-is_new-clause-fresh : goal.returns-then-is_new-clause-fresh
returns-then-is_new-clause-fresh c =
    fresher_others c.args.fresh.now c.any_set.new.self c.put_all.new.self c.args.needs.now.items c.merge.new.sets.items c.args.place c.args.numbers.now c.deref_mut-2.result.now _ c.index.result.now true c.requires.there
    (returns-then-is_new-clause-marked c) c.requires.again refl (get_here c.args.needs.now.items c.args.place c.index.result.now c.requires.there ∙ sym c.index.ensures) (c.deref_mut-2.ensures.value ∙ c.in_ok-copy_from.ensures.ok) c.remove_all.ensures.numbers
    c.any_set.ensures.followed c.any_set.ensures.sets c.in_ok-put_all.ensures

pub returns-clause-marked : goal.returns-clause-marked
returns-clause-marked c = subst (IsMarked c.args.needs.now.items c.merge.new.sets.items c.args.place (IsIn c.args.numbers.now)) c.if-is_new.false c.in_ok-is_new.ensures.marked

pub returns-clause-fresh : goal.returns-clause-fresh
returns-clause-fresh c =
    fresher_back c.args.fresh.now c.give_back.new.self c.args.needs.now.items c.merge.new.sets.items c.args.place (IsIn c.args.numbers.now) false c.requires.there (returns-clause-marked c) c.requires.again refl
    (c.give_back.ensures.followed ∙ c.any_set.ensures.followed) (c.give_back.ensures.sets ∙ c.any_set.ensures.sets)
