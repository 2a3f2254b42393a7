use Rattle.std.proofs.Common.{rules, arith}
use Rattle.std.proofs.lemmas.List.{length-map}
use Rattle.std.proofs.lemmas.Option.{slice_get_within}
use Rattle.asl_backward_flow.specs.declared.region_needs.RegionNeeds.{RegionNeeds}
use Rattle.asl_backward_flow.specs.Found.{table, locks_of}
use Rattle.asl_backward_flow.proofs.Steps.{adds_some_refused, adds_some_all}
use Rattle.asl_backward_flow.proofs.Entering.{lists_some_begin, lists_some_more, lists_some_all}
use Rattle.asl_backward_flow.proofs.found.Found.add_listed.Goals as goal

pub loop-lock-init : goal.loop-lock-init
loop-lock-init c =
    lists_some_begin (table c.args.self.now) c.args.part c.args.pc c.args.locks.now.items c.args.numbers.now
    (omega (arith, length-map c.args.self.now.parts.items (λ (z : RegionNeeds). z.locks.keys), c.requires.there)) c.requires.point c.requires.whole

pub add_number-requires : goal.add_number-requires
add_number-requires c =
    let within = slice_get_within (locks_of (table c.add.new.self) c.args.part) c.in_ok-number.number c.in-Some.lock c.in_ok-number.ensures.number in
    let few = c.in_ok-number.ensures.whole.few c.args.part in
    omega (arith, within, few)

pub loop-lock-preserved : goal.loop-lock-preserved
loop-lock-preserved c =
    lists_some_more _ (table c.loop-lock.self) (table c.add.new.self) _ _ _ c.loop-lock.locks.items c.pop.new.self.items c.in-Some.lock _ c.loop-lock.numbers c.add_number.new.set c.in_ok-number.number
    c.loop-lock.invariant c.in-Some.ensures.items c.in_ok-number.ensures.adds c.in_ok-number.ensures.whole c.in_ok-number.ensures.has c.in_ok-number.ensures.lists c.in_ok-number.ensures.number c.in_ok-add_number.ensures

pub returns-in_err-number-clause-adds : goal.returns-in_err-number-clause-adds
returns-in_err-number-clause-adds c =
    adds_some_refused _ (table c.loop-lock.self) (table c.add.new.self) _ _ _ c.loop-lock.locks.items c.pop.new.self.items c.in-Some.lock
    c.loop-lock.invariant.some c.in-Some.ensures.items c.in_err-number.ensures.adds

pub returns-in_err-add_number-clause-adds : goal.returns-in_err-add_number-clause-adds
returns-in_err-add_number-clause-adds c =
    adds_some_refused _ (table c.loop-lock.self) (table c.add.new.self) _ _ _ c.loop-lock.locks.items c.pop.new.self.items c.in-Some.lock
    c.loop-lock.invariant.some c.in-Some.ensures.items c.in_ok-number.ensures.adds

pub returns-clause-has : goal.returns-clause-has
returns-clause-has c = adds_some_all _ (table c.loop-lock.self) _ _ _ c.loop-lock.locks.items c.loop-lock.invariant.some (search (rules, c.in_default.ensures.cases))

pub returns-clause-numbers : goal.returns-clause-numbers
returns-clause-numbers c = lists_some_all _ (table c.loop-lock.self) _ _ _ c.loop-lock.locks.items _ _ c.loop-lock.invariant (search (rules, c.in_default.ensures.cases))
