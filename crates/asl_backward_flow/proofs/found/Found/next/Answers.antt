use Rattle.std.proofs.Common.{◌∙◌, rules, sym, arith}
use Rattle.asl_backward_flow.proofs.Marks.{get_here}
use Rattle.asl_backward_flow.proofs.Nexts.{taken_part, taken_first, taken_within, same_locks, next_given}
use Rattle.asl_backward_flow.proofs.found.Found.next.Goals as goal

pub index_mut-region-requires : goal.index_mut-region-requires
index_mut-region-requires c =
    let there = taken_part c.args.self.now.parts.items c.args.self.now.list c.pop.new.self c.in-Some.point c.requires c.in-Some.ensures.taken in
    let same = c.from.ensures in
    omega (arith, there, same, c.args.self.now.parts.ok.0)

pub overflow_sub-point : goal.overflow_sub-point
overflow_sub-point c =
    let first = taken_first c.args.self.now.parts.items c.in-Some.point c.from.result c.index_mut-region.result.now c.args.self.now.list c.pop.new.self (search (rules, c.from.ensures)) (taken_part c.args.self.now.parts.items c.args.self.now.list c.pop.new.self c.in-Some.point c.requires c.in-Some.ensures.taken) c.index_mut-region.ensures.value c.requires c.in-Some.ensures.taken in
    omega (arith, first)

pub index-requires : goal.index-requires
index-requires c =
    let first = taken_first c.args.self.now.parts.items c.in-Some.point c.from.result c.index_mut-region.result.now c.args.self.now.list c.pop.new.self (search (rules, c.from.ensures)) (taken_part c.args.self.now.parts.items c.args.self.now.list c.pop.new.self c.in-Some.point c.requires c.in-Some.ensures.taken) c.index_mut-region.ensures.value c.requires c.in-Some.ensures.taken in
    let place = c.from-place.ensures in
    let within = taken_within c.args.self.now.parts.items c.in-Some.point c.from.result c.index_mut-region.result.now c.args.self.now.list c.pop.new.self (search (rules, c.from.ensures)) (taken_part c.args.self.now.parts.items c.args.self.now.list c.pop.new.self c.in-Some.point c.requires c.in-Some.ensures.taken) c.index_mut-region.ensures.value c.requires c.in-Some.ensures.taken c.from-place.result (omega (arith, first, place)) in
    omega (arith, within, c.index_mut-region.result.now.needs.ok.0)

pub returns-in_err-take-clause-err : goal.returns-in_err-take-clause-err
returns-in_err-take-clause-err c =
    let part = taken_part c.args.self.now.parts.items c.args.self.now.list c.pop.new.self c.in-Some.point c.requires c.in-Some.ensures.taken in
    let locks = same_locks c.args.self.now.parts.items c.in-Some.point c.from.result c.index_mut-region.result.now c.args.self.now.list c.pop.new.self (search (rules, c.from.ensures)) part c.index_mut-region.ensures.value c.take.new.self in
    search (rules, locks)

pub returns-clause-some : goal.returns-clause-some
returns-clause-some c =
    let part = taken_part c.args.self.now.parts.items c.args.self.now.list c.pop.new.self c.in-Some.point c.requires c.in-Some.ensures.taken in
    let first = taken_first c.args.self.now.parts.items c.in-Some.point c.from.result c.index_mut-region.result.now c.args.self.now.list c.pop.new.self (search (rules, c.from.ensures)) part c.index_mut-region.ensures.value c.requires c.in-Some.ensures.taken in
    let place = c.from-place.ensures in
    let within = taken_within c.args.self.now.parts.items c.in-Some.point c.from.result c.index_mut-region.result.now c.args.self.now.list c.pop.new.self (search (rules, c.from.ensures)) part c.index_mut-region.ensures.value c.requires c.in-Some.ensures.taken c.from-place.result (omega (arith, first, place)) in
    next_given c.args.self.now.parts.items c.in-Some.point c.from.result c.index_mut-region.result.now c.args.self.now.list c.pop.new.self (search (rules, c.from.ensures)) part c.index_mut-region.ensures.value c.take.new.self c.from-place.result c.take.new.into c.index.result.now c.requires (omega (arith, first, place)) within
    (get_here c.index_mut-region.result.now.needs.items c.from-place.result c.index.result.now within ∙ sym c.index.ensures) c.in_ok-take.ensures c.in-Some.ensures.taken
