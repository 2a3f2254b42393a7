use Rattle.std.proofs.Common.{rules, ap, length, arith}
use Rattle.asl_backward_flow.proofs.Tables.{sets_before, first_before}
use Rattle.asl_backward_flow.proofs.Numbering.{numbers_small, numbered_some, numbered_adds, numbered_has, numbered_whole, numbered_lists}
use Rattle.asl_backward_flow.proofs.found.Found.add_numbered.Goals as goal

pub overflow_sub-pc : goal.overflow_sub-pc
overflow_sub-pc c =
    let point = c.requires.point.1 in
    let first = first_before c.args.self.now.parts.items c.args.part c.from.result c.index_mut-needing.result.now c.args.self.now.list (search (rules, c.from.ensures)) (omega (arith, c.requires.there)) c.index_mut-needing.ensures.value in
    omega (arith, point, first)

pub merge_fresh-requires-clause-there : goal.merge_fresh-requires-clause-there
merge_fresh-requires-clause-there c =
    let point = c.requires.point.1 in
    let first = first_before c.args.self.now.parts.items c.args.part c.from.result c.index_mut-needing.result.now c.args.self.now.list (search (rules, c.from.ensures)) (omega (arith, c.requires.there)) c.index_mut-needing.ensures.value in
    let place = c.from-place.ensures in
    let lt = c.requires.point.2 in
    let count = ap length (sets_before c.args.self.now.parts.items c.args.part c.from.result c.index_mut-needing.result.now c.args.self.now.list (search (rules, c.from.ensures)) (omega (arith, c.requires.there)) c.index_mut-needing.ensures.value) in
    omega (arith, point, first, place, lt, count)

pub merge_fresh-requires-clause-small : goal.merge_fresh-requires-clause-small
merge_fresh-requires-clause-small c = numbers_small c.args.self.now.parts.items c.args.part c.from.result c.index_mut-needing.result.now c.args.self.now.list (search (rules, c.from.ensures)) (omega (arith, c.requires.there)) c.index_mut-needing.ensures.value c.requires.whole c.args.numbers.now c.requires.named

pub returns-in_err-is_new-clause-adds : goal.returns-in_err-is_new-clause-adds
returns-in_err-is_new-clause-adds c =
    let point = c.requires.point.1 in
    let first = first_before c.args.self.now.parts.items c.args.part c.from.result c.index_mut-needing.result.now c.args.self.now.list (search (rules, c.from.ensures)) (omega (arith, c.requires.there)) c.index_mut-needing.ensures.value in
    let place = c.from-place.ensures in
    numbered_some c.args.self.now.parts.items c.args.part c.from.result c.index_mut-needing.result.now c.args.self.now.list (search (rules, c.from.ensures)) (omega (arith, c.requires.there)) c.index_mut-needing.ensures.value c.requires.whole c.args.numbers.now c.requires.named c.merge_fresh.new.needs c.merge_fresh.new.fresh c.args.self.now.list c.from-place.result c.args.pc (omega (arith, point, first, place)) c.in_err-is_new.ensures.err

pub returns-in_err-put-clause-adds : goal.returns-in_err-put-clause-adds
returns-in_err-put-clause-adds c =
    let point = c.requires.point.1 in
    let first = first_before c.args.self.now.parts.items c.args.part c.from.result c.index_mut-needing.result.now c.args.self.now.list (search (rules, c.from.ensures)) (omega (arith, c.requires.there)) c.index_mut-needing.ensures.value in
    let place = c.from-place.ensures in
    numbered_adds c.args.self.now.parts.items c.args.part c.from.result c.index_mut-needing.result.now c.args.self.now.list (search (rules, c.from.ensures)) (omega (arith, c.requires.there)) c.index_mut-needing.ensures.value c.requires.whole c.args.numbers.now c.requires.named c.merge_fresh.new.needs c.merge_fresh.new.fresh c.put.new.self c.from-place.result c.in_ok-is_new.is_new c.in_ok-is_new.ensures.marked c.args.pc (omega (arith, point, first, place))

pub returns-clause-adds : goal.returns-clause-adds
returns-clause-adds c =
    let point = c.requires.point.1 in
    let first = first_before c.args.self.now.parts.items c.args.part c.from.result c.index_mut-needing.result.now c.args.self.now.list (search (rules, c.from.ensures)) (omega (arith, c.requires.there)) c.index_mut-needing.ensures.value in
    let place = c.from-place.ensures in
    numbered_adds c.args.self.now.parts.items c.args.part c.from.result c.index_mut-needing.result.now c.args.self.now.list (search (rules, c.from.ensures)) (omega (arith, c.requires.there)) c.index_mut-needing.ensures.value c.requires.whole c.args.numbers.now c.requires.named c.merge_fresh.new.needs c.merge_fresh.new.fresh c.put.new.self c.from-place.result c.in_ok-is_new.is_new c.in_ok-is_new.ensures.marked c.args.pc (omega (arith, point, first, place))

pub returns-clause-has : goal.returns-clause-has
returns-clause-has c =
    let point = c.requires.point.1 in
    let first = first_before c.args.self.now.parts.items c.args.part c.from.result c.index_mut-needing.result.now c.args.self.now.list (search (rules, c.from.ensures)) (omega (arith, c.requires.there)) c.index_mut-needing.ensures.value in
    let place = c.from-place.ensures in
    numbered_has c.args.self.now.parts.items c.args.part c.from.result c.index_mut-needing.result.now c.args.self.now.list (search (rules, c.from.ensures)) (omega (arith, c.requires.there)) c.index_mut-needing.ensures.value c.requires.whole c.args.numbers.now c.requires.named c.merge_fresh.new.needs c.merge_fresh.new.fresh c.put.new.self c.from-place.result c.in_ok-is_new.is_new c.in_ok-is_new.ensures.marked c.args.pc (omega (arith, point, first, place))

pub returns-clause-whole : goal.returns-clause-whole
returns-clause-whole c =
    let point = c.requires.point.1 in
    let first = first_before c.args.self.now.parts.items c.args.part c.from.result c.index_mut-needing.result.now c.args.self.now.list (search (rules, c.from.ensures)) (omega (arith, c.requires.there)) c.index_mut-needing.ensures.value in
    let place = c.from-place.ensures in
    numbered_whole c.args.self.now.parts.items c.args.part c.from.result c.index_mut-needing.result.now c.args.self.now.list (search (rules, c.from.ensures)) (omega (arith, c.requires.there)) c.index_mut-needing.ensures.value c.requires.whole c.args.numbers.now c.requires.named c.merge_fresh.new.needs c.merge_fresh.new.fresh c.put.new.self c.from-place.result c.in_ok-is_new.is_new c.in_ok-is_new.ensures.marked c.args.pc (omega (arith, point, first, place)) c.in_ok-is_new.ensures.fresh c.in_ok-put.ensures.ok

pub returns-clause-lists : goal.returns-clause-lists
returns-clause-lists c =
    let point = c.requires.point.1 in
    let first = first_before c.args.self.now.parts.items c.args.part c.from.result c.index_mut-needing.result.now c.args.self.now.list (search (rules, c.from.ensures)) (omega (arith, c.requires.there)) c.index_mut-needing.ensures.value in
    let place = c.from-place.ensures in
    numbered_lists c.args.self.now.parts.items c.args.part c.from.result c.index_mut-needing.result.now c.args.self.now.list (search (rules, c.from.ensures)) (omega (arith, c.requires.there)) c.index_mut-needing.ensures.value c.requires.whole c.args.numbers.now c.requires.named c.merge_fresh.new.needs c.merge_fresh.new.fresh c.put.new.self c.from-place.result c.in_ok-is_new.is_new c.in_ok-is_new.ensures.marked c.args.pc (omega (arith, point, first, place)) c.in_ok-is_new.ensures.fresh c.in_ok-put.ensures.ok
