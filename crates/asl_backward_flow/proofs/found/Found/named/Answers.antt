use Rattle.std.proofs.Common.{◌↔◌, ℕ, List, [], sym, subst, arith}
use Rattle.std.specs.List.{Contains}
use Rattle.std.proofs.lemmas.Option.{slice_get-get_or}
use Rattle.asl_lane_sets.specs.NumberSet.{IsIn}
use Rattle.asl_backward_flow.specs.Found.{table, locks_of, IsNamed}
use Rattle.asl_backward_flow.specs.Parts.{IsNumbered}
use Rattle.asl_backward_flow.proofs.Listing.{lists_more, number_more, numbers_all}
use Rattle.asl_backward_flow.proofs.Entering.{pushed_one, from_none}
use Rattle.asl_backward_flow.proofs.found.Found.named.Goals as goal

pub loop-number-preserved : goal.loop-number-preserved
loop-number-preserved c =
    let locks = locks_of (table c.args.self.now) c.args.part in
    lists_more (IsNumbered locks c.as_slice-number-items.result.now) [] c.loop-number.number-index c.loop-number.locks.items c.push.new.self.items c.loop-number.invariant
    (number_more locks c.as_slice-number-items.result.now c.loop-number.number-index _ (slice_get-get_or c.as_slice-number-items.result.now c.loop-number.number-index 0 c.loop-number-test.true)
    c.loop-number.locks.items c.push.new.self.items (pushed_one c.loop-number.locks.items c.push.new.self.items c.in_ok-lock.field-0 locks _ c.in_ok-push.ensures.items c.in_ok-lock.ensures))

pub returns : goal.returns
returns c =
    let locks = locks_of (table c.args.self.now) c.args.part in
    let numbers = subst (λ (l : List ℕ). (k : ℕ) → Contains l k ↔ IsIn c.args.numbers.now k) (sym c.as_slice-number-items.ensures.value) c.in_ok-members.ensures.numbers in
    let end = c.loop-number-test.false in
    from_none c.loop-number.locks.items (IsNamed locks c.args.numbers.now)
    (numbers_all locks c.as_slice-number-items.result.now c.args.numbers.now c.loop-number.number-index [] c.loop-number.locks.items numbers (omega (arith, end)) c.loop-number.invariant)
