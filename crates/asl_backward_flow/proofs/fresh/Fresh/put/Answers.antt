use Rattle.std.proofs.Common.{◌≡◌, ◌∙◌}
use Rattle.asl_backward_flow.proofs.Keeping.{kept_more}
use Rattle.asl_backward_flow.proofs.fresh.Fresh.put.Goals as goal

pub returns : goal.returns
returns c =
    kept_more c.args.self.now c.take_set.new.self c.keep.new.self c.args.place c.deref_mut.result.now _ (λ n. n ≡ c.args.number) c.take_set.ensures.followed c.keep.ensures.followed c.in_ok-set.ensures.rest c.in_ok-keep.ensures.rest
    (c.deref_mut.ensures.value ∙ c.in_ok-set.ensures.set) c.in_ok-keep.ensures.here c.in_ok-add_number.ensures
