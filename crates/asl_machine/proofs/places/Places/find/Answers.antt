use Rattle.std.proofs.Common.{rules, ◌≡◌, ◌<◌, ◌-◌, suc, subst, sym, ◌∙◌, arith}
use Rattle.asl_machine.specs.Places.{IsSought}
use Rattle.asl_machine.proofs.NodePlaces.{sought_first, sought_next, sought_smaller, sought_found, sought_none}
use Rattle.asl_machine.proofs.places.Places.find.Goals as goal

pub loop-next-init : goal.loop-next-init
loop-next-init c =
    sought_first c.args.self.now c.args.request.now c.args.node _ (subst (λ n. n < 512) c.chain_of.ensures.chain c.chain_of.ensures.within) (search rules) c.requires

pub loop-next-preserved : goal.loop-next-preserved
loop-next-preserved c =
    let place = c.loop-next.next - 1 in
    let same : c.loop-next.next ≡ suc place = (let some = c.loop-next-test.true in omega (arith, some)) in
    sought_next c.args.self.now c.args.request.now c.args.node place _ (search rules) c.requires (subst (IsSought c.args.request.now c.args.node) same c.loop-next.invariant)
    (sym c.is_at.ensures ∙ c.if-is_at.false)

pub loop-next-smaller : goal.loop-next-smaller
loop-next-smaller c =
    let same : c.loop-next.next ≡ suc (c.loop-next.next - 1) = (let some = c.loop-next-test.true in omega (arith, some)) in
    sought_smaller c.args.self.now c.args.request.now c.args.node (c.loop-next.next - 1) _ c.loop-next.next same (search rules) c.requires c.loop-next.invariant

pub returns-then-is_at : goal.returns-then-is_at
returns-then-is_at c =
    let place = c.loop-next.next - 1 in
    let low = c.loop-next.invariant.within in
    let some = c.loop-next-test.true in
    sought_found c.args.self.now c.args.request.now c.args.node place c.requires (omega (arith, low, some)) (sym c.is_at.ensures ∙ c.if-is_at.true)

pub returns : goal.returns
returns c =
    let past = c.loop-next-test.false in
    let none : c.loop-next.next ≡ 0 = omega (arith, past) in
    sought_none c.args.request.now c.args.node (subst (IsSought c.args.request.now c.args.node) none c.loop-next.invariant)
