use Rattle.std.proofs.Common.{◌≡◌, ◌∙◌, rules, refl, arith, ap, length, slice_get}
use Rattle.asl_backward_flow.proofs.Tables.{sets_before, first_before}
use Rattle.asl_backward_flow.proofs.Additions.{part_adds, part_locks, part_over, some_adds, mark_adds, mark_has, mark_whole, mark_lists}
use Rattle.asl_backward_flow.proofs.found.Found.add.Goals as goal

pub returns-in_err-number-clause-adds : goal.returns-in_err-number-clause-adds
returns-in_err-number-clause-adds c =
    part_adds c.args.self.now.parts.items c.args.part c.from.result c.index_mut-region.result.now
    (record { region = c.index_mut-region.result.now.region; first = c.index_mut-region.result.now.first; locks = c.number.new.locks; needs = c.index_mut-region.result.now.needs; fresh = c.index_mut-region.result.now.fresh })
    c.args.self.now.list c.args.self.now.list (search (rules, c.from.ensures)) (omega (arith, c.requires.there)) c.index_mut-region.ensures.value
    refl refl (λ m. m ≡ c.args.lock) c.in_err-number.ensures.numbers c.args.pc c.requires.whole refl

pub returns-then-len-gt-MAX_LOCKS-clause-adds : goal.returns-then-len-gt-MAX_LOCKS-clause-adds
returns-then-len-gt-MAX_LOCKS-clause-adds c =
    part_adds c.args.self.now.parts.items c.args.part c.from.result c.index_mut-region.result.now
    (record { region = c.index_mut-region.result.now.region; first = c.index_mut-region.result.now.first; locks = c.number.new.locks; needs = c.index_mut-region.result.now.needs; fresh = c.index_mut-region.result.now.fresh })
    c.args.self.now.list c.args.self.now.list (search (rules, c.from.ensures)) (omega (arith, c.requires.there)) c.index_mut-region.ensures.value
    refl refl (λ m. m ≡ c.args.lock) c.in_ok-number.ensures.numbers c.args.pc c.requires.whole refl

pub returns-then-len-gt-MAX_LOCKS-clause-over : goal.returns-then-len-gt-MAX_LOCKS-clause-over
returns-then-len-gt-MAX_LOCKS-clause-over c =
    part_over c.args.self.now.parts.items c.args.part c.from.result c.index_mut-region.result.now
    (record { region = c.index_mut-region.result.now.region; first = c.index_mut-region.result.now.first; locks = c.number.new.locks; needs = c.index_mut-region.result.now.needs; fresh = c.index_mut-region.result.now.fresh })
    c.args.self.now.list c.args.self.now.list (search (rules, c.from.ensures)) (omega (arith, c.requires.there)) c.index_mut-region.ensures.value
    refl refl (λ m. m ≡ c.args.lock) c.in_ok-number.ensures.numbers (let many = c.if-len-gt-MAX_LOCKS.true in let len = c.len.ensures.len in omega arith)

pub overflow_sub-pc : goal.overflow_sub-pc
overflow_sub-pc c =
    let point = c.requires.point.1 in
    let first = first_before c.args.self.now.parts.items c.args.part c.from.result c.index_mut-region.result.now c.args.self.now.list (search (rules, c.from.ensures)) (omega (arith, c.requires.there)) c.index_mut-region.ensures.value in
    omega (arith, point, first)

pub mark_fresh-requires-clause-there : goal.mark_fresh-requires-clause-there
mark_fresh-requires-clause-there c =
    let point = c.requires.point.1 in
    let first = first_before c.args.self.now.parts.items c.args.part c.from.result c.index_mut-region.result.now c.args.self.now.list (search (rules, c.from.ensures)) (omega (arith, c.requires.there)) c.index_mut-region.ensures.value in
    let place = c.from-place.ensures in
    let lt = c.requires.point.2 in
    let count = ap length (sets_before c.args.self.now.parts.items c.args.part c.from.result c.index_mut-region.result.now c.args.self.now.list (search (rules, c.from.ensures)) (omega (arith, c.requires.there)) c.index_mut-region.ensures.value) in
    omega (arith, point, first, place, lt, count)

pub returns-in_err-is_new-clause-adds : goal.returns-in_err-is_new-clause-adds
returns-in_err-is_new-clause-adds c =
    some_adds c.args.self.now.parts.items c.args.part c.from.result c.index_mut-region.result.now
    (record { region = c.index_mut-region.result.now.region; first = c.index_mut-region.result.now.first; locks = c.number.new.locks; needs = c.mark_fresh.new.needs; fresh = c.mark_fresh.new.fresh })
    c.args.self.now.list c.args.self.now.list (search (rules, c.from.ensures)) (omega (arith, c.requires.there)) c.index_mut-region.ensures.value
    refl refl (λ m. m ≡ c.args.lock) c.in_ok-number.ensures.numbers c.from-place.result (λ n. n ≡ c.in_ok-number.number) c.args.pc
    (let point = c.requires.point.1 in let first = first_before c.args.self.now.parts.items c.args.part c.from.result c.index_mut-region.result.now c.args.self.now.list (search (rules, c.from.ensures)) (omega (arith, c.requires.there)) c.index_mut-region.ensures.value in let place = c.from-place.ensures in omega (arith, point, first, place))
    (λ n e. (c.args.lock, ap (slice_get c.number.new.locks.keys) e ∙ c.in_ok-number.ensures.stored, refl)) c.requires.whole c.in_err-is_new.ensures.err

pub returns-in_err-put-clause-adds : goal.returns-in_err-put-clause-adds
returns-in_err-put-clause-adds c =
    mark_adds c.args.self.now.parts.items c.args.part c.from.result c.index_mut-region.result.now
    (record { region = c.index_mut-region.result.now.region; first = c.index_mut-region.result.now.first; locks = c.number.new.locks; needs = c.mark_fresh.new.needs; fresh = c.mark_fresh.new.fresh })
    c.args.self.now.list c.put.new.self (search (rules, c.from.ensures)) (omega (arith, c.requires.there)) c.index_mut-region.ensures.value
    refl refl (λ m. m ≡ c.args.lock) c.in_ok-number.ensures.numbers c.from-place.result (λ n. n ≡ c.in_ok-number.number) c.in_ok-is_new.is_new c.in_ok-is_new.ensures.marked c.args.pc
    (let point = c.requires.point.1 in let first = first_before c.args.self.now.parts.items c.args.part c.from.result c.index_mut-region.result.now c.args.self.now.list (search (rules, c.from.ensures)) (omega (arith, c.requires.there)) c.index_mut-region.ensures.value in let place = c.from-place.ensures in omega (arith, point, first, place))
    (λ n e. (c.args.lock, ap (slice_get c.number.new.locks.keys) e ∙ c.in_ok-number.ensures.stored, refl)) c.requires.whole

pub returns-clause-adds : goal.returns-clause-adds
returns-clause-adds c =
    mark_adds c.args.self.now.parts.items c.args.part c.from.result c.index_mut-region.result.now
    (record { region = c.index_mut-region.result.now.region; first = c.index_mut-region.result.now.first; locks = c.number.new.locks; needs = c.mark_fresh.new.needs; fresh = c.mark_fresh.new.fresh })
    c.args.self.now.list c.put.new.self (search (rules, c.from.ensures)) (omega (arith, c.requires.there)) c.index_mut-region.ensures.value
    refl refl (λ m. m ≡ c.args.lock) c.in_ok-number.ensures.numbers c.from-place.result (λ n. n ≡ c.in_ok-number.number) c.in_ok-is_new.is_new c.in_ok-is_new.ensures.marked c.args.pc
    (let point = c.requires.point.1 in let first = first_before c.args.self.now.parts.items c.args.part c.from.result c.index_mut-region.result.now c.args.self.now.list (search (rules, c.from.ensures)) (omega (arith, c.requires.there)) c.index_mut-region.ensures.value in let place = c.from-place.ensures in omega (arith, point, first, place))
    (λ n e. (c.args.lock, ap (slice_get c.number.new.locks.keys) e ∙ c.in_ok-number.ensures.stored, refl)) c.requires.whole

pub returns-clause-has : goal.returns-clause-has
returns-clause-has c =
    mark_has c.args.self.now.parts.items c.args.part c.from.result c.index_mut-region.result.now
    (record { region = c.index_mut-region.result.now.region; first = c.index_mut-region.result.now.first; locks = c.number.new.locks; needs = c.mark_fresh.new.needs; fresh = c.mark_fresh.new.fresh })
    c.args.self.now.list c.put.new.self (search (rules, c.from.ensures)) (omega (arith, c.requires.there)) c.index_mut-region.ensures.value
    refl refl (λ m. m ≡ c.args.lock) c.in_ok-number.ensures.numbers c.from-place.result (λ n. n ≡ c.in_ok-number.number) c.in_ok-is_new.is_new c.in_ok-is_new.ensures.marked c.args.pc
    (let point = c.requires.point.1 in let first = first_before c.args.self.now.parts.items c.args.part c.from.result c.index_mut-region.result.now c.args.self.now.list (search (rules, c.from.ensures)) (omega (arith, c.requires.there)) c.index_mut-region.ensures.value in let place = c.from-place.ensures in omega (arith, point, first, place))
    (λ n e. (c.args.lock, ap (slice_get c.number.new.locks.keys) e ∙ c.in_ok-number.ensures.stored, refl)) c.requires.whole c.in_ok-number.number c.args.lock refl c.in_ok-number.ensures.stored

pub returns-clause-whole : goal.returns-clause-whole
returns-clause-whole c =
    mark_whole c.args.self.now.parts.items c.args.part c.from.result c.index_mut-region.result.now
    (record { region = c.index_mut-region.result.now.region; first = c.index_mut-region.result.now.first; locks = c.number.new.locks; needs = c.mark_fresh.new.needs; fresh = c.mark_fresh.new.fresh })
    c.args.self.now.list c.put.new.self (search (rules, c.from.ensures)) (omega (arith, c.requires.there)) c.index_mut-region.ensures.value
    refl refl (λ m. m ≡ c.args.lock) c.in_ok-number.ensures.numbers c.from-place.result (λ n. n ≡ c.in_ok-number.number) c.in_ok-is_new.is_new c.in_ok-is_new.ensures.marked c.args.pc
    (let point = c.requires.point.1 in let first = first_before c.args.self.now.parts.items c.args.part c.from.result c.index_mut-region.result.now c.args.self.now.list (search (rules, c.from.ensures)) (omega (arith, c.requires.there)) c.index_mut-region.ensures.value in let place = c.from-place.ensures in omega (arith, point, first, place))
    (λ n e. (c.args.lock, ap (slice_get c.number.new.locks.keys) e ∙ c.in_ok-number.ensures.stored, refl)) c.requires.whole c.in_ok-is_new.ensures.fresh c.in_ok-put.ensures.ok
    (let few = c.if-len-gt-MAX_LOCKS.false in let len = c.len.ensures.len in omega arith)

pub returns-clause-lists : goal.returns-clause-lists
returns-clause-lists c =
    mark_lists c.args.self.now.parts.items c.args.part c.from.result c.index_mut-region.result.now
    (record { region = c.index_mut-region.result.now.region; first = c.index_mut-region.result.now.first; locks = c.number.new.locks; needs = c.mark_fresh.new.needs; fresh = c.mark_fresh.new.fresh })
    c.args.self.now.list c.put.new.self (search (rules, c.from.ensures)) (omega (arith, c.requires.there)) c.index_mut-region.ensures.value
    refl refl (λ m. m ≡ c.args.lock) c.in_ok-number.ensures.numbers c.from-place.result (λ n. n ≡ c.in_ok-number.number) c.in_ok-is_new.is_new c.in_ok-is_new.ensures.marked c.args.pc
    (let point = c.requires.point.1 in let first = first_before c.args.self.now.parts.items c.args.part c.from.result c.index_mut-region.result.now c.args.self.now.list (search (rules, c.from.ensures)) (omega (arith, c.requires.there)) c.index_mut-region.ensures.value in let place = c.from-place.ensures in omega (arith, point, first, place))
    (λ n e. (c.args.lock, ap (slice_get c.number.new.locks.keys) e ∙ c.in_ok-number.ensures.stored, refl)) c.requires.whole c.in_ok-is_new.ensures.fresh c.in_ok-put.ensures.ok

pub returns-clause-number : goal.returns-clause-number
returns-clause-number c =
    ap (λ l. slice_get l c.in_ok-number.number)
    (part_locks c.args.self.now.parts.items c.args.part c.from.result c.index_mut-region.result.now
    (record { region = c.index_mut-region.result.now.region; first = c.index_mut-region.result.now.first; locks = c.number.new.locks; needs = c.mark_fresh.new.needs; fresh = c.mark_fresh.new.fresh })
    c.args.self.now.list c.put.new.self (search (rules, c.from.ensures)) (omega (arith, c.requires.there)) c.index_mut-region.ensures.value
    refl refl (λ m. m ≡ c.args.lock) c.in_ok-number.ensures.numbers)
    ∙ c.in_ok-number.ensures.stored
