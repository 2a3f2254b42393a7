use Rattle.std.proofs.Common.{◌-◌, ◌∙◌, ap, sym, length, arith}
use Rattle.asl_backward_flow.specs.Found.{list_at}
use Rattle.asl_backward_flow.proofs.Marks.{get_here, get_past}
use Rattle.asl_backward_flow.proofs.Listing.{need_in, need_nowhere}
use Rattle.asl_backward_flow.proofs.region_needs.RegionNeeds.needs.Goals as goal

pub returns-then-pc-first : goal.returns-then-pc-first
returns-then-pc-first c =
    let below = c.if-pc-first.true in
    let first = c.from-first.ensures in
    need_nowhere c.args.self.now c.args.pc c.args.number (λ k e. absurd (omega (arith, below, first, e)))

pub returns-in-Some : goal.returns-in-Some
returns-in-Some c =
    let from = c.if-pc-first.false in
    let first = c.from-first.ensures in
    need_in c.args.self.now c.args.pc c.args.number c.has_number.result (c.args.pc - c.from-first.result) c.in-Some.set.now (omega (arith, from, first))
    (ap (λ l. list_at l (c.args.pc - c.from-first.result)) (sym c.deref.ensures.value) ∙ get_here c.deref.result.now (c.args.pc - c.from-first.result) c.in-Some.set.now c.in-Some.ensures.lookup.3.0 ∙ sym c.in-Some.ensures.lookup.1)
    c.has_number.ensures

pub returns-in-None : goal.returns-in-None
returns-in-None c =
    let first = c.from-first.ensures in
    let past = c.in-None.ensures.lookup.3 in
    let count = ap length c.deref.ensures.value in
    need_nowhere c.args.self.now c.args.pc c.args.number (λ k e. get_past c.args.self.now.needs.items k (omega (arith, first, past, count, e)))
