use Rattle.std.proofs.Common.{rules, arith}
use Rattle.std.proofs.lemmas.List.{length-map}
use Rattle.asl_backward_flow.specs.declared.region_needs.RegionNeeds.{RegionNeeds}
use Rattle.asl_backward_flow.specs.Found.{table}
use Rattle.asl_backward_flow.proofs.Steps.{adds_some_begin, adds_some_more, adds_some_refused, adds_some_all}
use Rattle.asl_backward_flow.proofs.found.Found.add_all.Goals as goal

pub loop-lock-init : goal.loop-lock-init
loop-lock-init c =
    adds_some_begin (table c.args.self.now) c.args.part c.args.pc c.args.locks.now.items
    (omega (arith, length-map c.args.self.now.parts.items (λ (z : RegionNeeds). z.locks.keys), c.requires.there)) c.requires.point c.requires.whole

pub loop-lock-preserved : goal.loop-lock-preserved
loop-lock-preserved c =
    adds_some_more _ (table c.loop-lock.self) (table c.add.new.self) _ _ _ c.loop-lock.locks.items c.pop.new.self.items c.in-Some.lock
    c.loop-lock.invariant c.in-Some.ensures.items c.in_ok-add.ensures.adds c.in_ok-add.ensures.whole c.in_ok-add.ensures.has c.in_ok-add.ensures.lists

pub returns-in_err-add-clause-adds : goal.returns-in_err-add-clause-adds
returns-in_err-add-clause-adds c =
    adds_some_refused _ (table c.loop-lock.self) (table c.add.new.self) _ _ _ c.loop-lock.locks.items c.pop.new.self.items c.in-Some.lock
    c.loop-lock.invariant c.in-Some.ensures.items c.in_err-add.ensures.adds

pub returns-clause-has : goal.returns-clause-has
returns-clause-has c = adds_some_all _ (table c.loop-lock.self) _ _ _ c.loop-lock.locks.items c.loop-lock.invariant (search (rules, c.in_default.ensures.cases))
