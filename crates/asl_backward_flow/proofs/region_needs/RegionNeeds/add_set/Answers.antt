use Rattle.std.proofs.Common.{◌↔◌, ℕ, List, sym, subst, arith}
use Rattle.std.specs.List.{Contains}
use Rattle.std.proofs.lemmas.Option.{slice_get-get_or}
use Rattle.asl_lane_sets.specs.NumberSet.{IsIn}
use Rattle.asl_backward_flow.specs.Parts.{IsNumbered}
use Rattle.asl_backward_flow.proofs.Listing.{lists_more, number_more, numbers_all}
use Rattle.asl_backward_flow.proofs.region_needs.RegionNeeds.add_set.Goals as goal

pub loop-number-preserved : goal.loop-number-preserved
loop-number-preserved c = record {
  order = c.in_ok-add_lock.ensures.order;
  locks = lists_more (IsNumbered c.args.self.now.locks.keys c.as_slice-number-items.result.now) c.args.locks.now.items c.loop-number.number-index c.loop-number.locks.items c.add_lock.new.locks.items c.loop-number.invariant.locks
      (number_more c.args.self.now.locks.keys c.as_slice-number-items.result.now c.loop-number.number-index _ (slice_get-get_or c.as_slice-number-items.result.now c.loop-number.number-index 0 c.loop-number-test.true)
      c.loop-number.locks.items c.add_lock.new.locks.items c.in_ok-add_lock.ensures.locks);
}

pub returns-clause-locks : goal.returns-clause-locks
returns-clause-locks c =
    let numbers = subst (λ (l : List ℕ). (k : ℕ) → Contains l k ↔ IsIn c.args.set.now k) (sym c.as_slice-number-items.ensures.value)
    (λ k. (λ h. (c.in_ok-numbers.ensures.numbers k).0 ((c.arrange.ensures k).0 h), λ h. (c.arrange.ensures k).1 ((c.in_ok-numbers.ensures.numbers k).1 h))) in
    let end = c.loop-number-test.false in
    numbers_all c.args.self.now.locks.keys c.as_slice-number-items.result.now c.args.set.now c.loop-number.number-index c.args.locks.now.items c.loop-number.locks.items numbers (omega (arith, end)) c.loop-number.invariant.locks
