use Rattle.std.proofs.Common.{◌-◌, ◌∙◌, ap, sym, length, arith}
use Rattle.asl_backward_flow.specs.Found.{list_at}
use Rattle.asl_backward_flow.proofs.Marks.{get_here, get_past}
use Rattle.asl_backward_flow.proofs.Listing.{part_locks_ok, part_none}
use Rattle.asl_backward_flow.proofs.region_needs.RegionNeeds.add_needed.Goals as goal

pub returns-then-pc-first-clause-locks : goal.returns-then-pc-first-clause-locks
returns-then-pc-first-clause-locks c =
    let below = c.if-pc-first.true in
    let first = c.from-first.ensures in
    part_none c.args.self.now c.args.pc c.args.locks.now.items (λ k e. absurd (omega (arith, below, first, e)))

pub returns-in-Some-clause-locks : goal.returns-in-Some-clause-locks
returns-in-Some-clause-locks c =
    let from = c.if-pc-first.false in
    let first = c.from-first.ensures in
    part_locks_ok c.args.self.now c.args.pc (c.args.pc - c.from-first.result) c.in-Some.set.now c.args.locks.now.items c.add_set.new.locks.items (omega (arith, from, first))
    (ap (λ l. list_at l (c.args.pc - c.from-first.result)) (sym c.deref.ensures.value) ∙ get_here c.deref.result.now (c.args.pc - c.from-first.result) c.in-Some.set.now c.in-Some.ensures.lookup.3.0 ∙ sym c.in-Some.ensures.lookup.1)
    c.add_set.result c.add_set.ensures.locks

pub returns-in-None-clause-locks : goal.returns-in-None-clause-locks
returns-in-None-clause-locks c =
    let first = c.from-first.ensures in
    let past = c.in-None.ensures.lookup.3 in
    let count = ap length c.deref.ensures.value in
    part_none c.args.self.now c.args.pc c.args.locks.now.items (λ k e. get_past c.args.self.now.needs.items k (omega (arith, first, past, count, e)))
