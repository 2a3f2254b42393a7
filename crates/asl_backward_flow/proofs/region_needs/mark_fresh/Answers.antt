use Rattle.std.proofs.Common.{◌≡◌, rules, true, false, inl, inr, refl, subst}
use Rattle.asl_backward_flow.specs.Found.{IsMarked, AreSome}
use Rattle.asl_backward_flow.proofs.Freshness.{not_told, fresher_first, fresher_none, fresher_some}
use Rattle.asl_backward_flow.proofs.region_needs.mark_fresh.Goals as goal

pub returns-in_err-is_new-clause-err : goal.returns-in_err-is_new-clause-err
returns-in_err-is_new-clause-err c =
    let some : AreSome c.args.needs.now.items c.mark.new.sets.items c.args.place (λ n. n ≡ c.args.number) = inl c.in_err-is_new.ensures.err in
    search (rules, some)

pub returns-then-not-is_followed-clause-fresh : goal.returns-then-not-is_followed-clause-fresh
returns-then-not-is_followed-clause-fresh c =
    fresher_first c.args.fresh.now c.args.needs.now.items c.mark.new.sets.items c.args.place (λ n. n ≡ c.args.number) c.in_ok-is_new.is_new c.requires.there c.in_ok-is_new.ensures.marked
    (not_told c.is_followed.result _ c.is_followed.ensures c.if-not-is_followed.true)

pub returns-in_err-put-clause-err : goal.returns-in_err-put-clause-err
returns-in_err-put-clause-err c =
    let some : AreSome c.args.needs.now.items c.mark.new.sets.items c.args.place (λ n. n ≡ c.args.number) = inr (c.in_ok-is_new.is_new, c.in_ok-is_new.ensures.marked) in
    search (rules, some)

pub returns-then-is_new-clause-marked : goal.returns-then-is_new-clause-marked
returns-then-is_new-clause-marked c = subst (IsMarked c.args.needs.now.items c.mark.new.sets.items c.args.place (λ n. n ≡ c.args.number)) c.if-is_new.true c.in_ok-is_new.ensures.marked

pub returns-then-is_new-clause-fresh : goal.returns-then-is_new-clause-fresh
returns-then-is_new-clause-fresh c =
    fresher_some c.args.fresh.now c.args.needs.now.items c.mark.new.sets.items c.args.place (λ n. n ≡ c.args.number) true c.requires.there (returns-then-is_new-clause-marked c) c.put.new.self (λ n. n ≡ c.args.number)
    (c.is_followed.ensures.0 c.if-not-is_followed.false) refl c.in_ok-put.ensures (λ n h. h) (λ n h. inr h)

pub returns-clause-marked : goal.returns-clause-marked
returns-clause-marked c = subst (IsMarked c.args.needs.now.items c.mark.new.sets.items c.args.place (λ n. n ≡ c.args.number)) c.if-is_new.false c.in_ok-is_new.ensures.marked

pub returns-clause-fresh : goal.returns-clause-fresh
returns-clause-fresh c =
    fresher_none c.args.fresh.now c.args.needs.now.items c.mark.new.sets.items c.args.place (λ n. n ≡ c.args.number) false c.requires.there (returns-clause-marked c) (c.is_followed.ensures.0 c.if-not-is_followed.false) refl
