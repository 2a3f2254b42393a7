use Rattle.std.proofs.Common.{◌⊎◌, ◌↔◌, ◌∙◌, subst}
use Rattle.asl_lane_sets.specs.NumberSet.{IsIn}
use Rattle.asl_backward_flow.proofs.Freshness.{kept_same}
use Rattle.asl_backward_flow.proofs.Keeping.{kept_more, kept_first}
use Rattle.asl_backward_flow.proofs.fresh.Fresh.put_all.Goals as goal

pub returns-in_default : goal.returns-in_default
returns-in_default c =
    kept_first c.args.self.now c.take_kept.new.self c.keep.new.self c.args.place c.args.numbers.value c.take_kept.ensures.followed c.keep.ensures.followed c.take_kept.ensures.rest c.in_ok-keep.ensures.rest
    c.in_default.ensures.set c.in_ok-keep.ensures.here

pub returns : goal.returns
returns c =
    kept_more c.args.self.now c.give_back.new.self c.keep-2.new.self c.args.place c.deref_mut.result.now c.join.new.set (IsIn c.args.numbers.value) (c.give_back.ensures.followed ∙ c.take_kept.ensures.followed)
    c.keep-2.ensures.followed (λ k ne. kept_same c.take_kept.new.self c.give_back.new.self c.give_back.ensures.sets k ∙ c.take_kept.ensures.rest k ne) c.in_ok-keep-2.ensures.rest
    (c.deref_mut.ensures.value ∙ c.in-Some.ensures.set) c.in_ok-keep-2.ensures.here
    (λ n. subst (λ l. IsIn c.join.new.set n ↔ (IsIn c.deref_mut.result.now n ⊎ IsIn l n)) c.deref.ensures (c.in_ok-join.ensures n))
