use Rattle.std.proofs.Common.{◌≤◌, List, length, sym, subst, arith}
use Rattle.asl_class_text.specs.declared.told.ToldStep.{ToldStep}
use Rattle.asl_class_text.specs.declared.told.ToldGround.{ToldGround}
use Rattle.asl_class_text.specs.Made.{IsStraightAnywhere, IsChainAt, IsGone}
use Rattle.asl_class_text.proofs.Grounded.{own_straight, grounds_more, grounds_past}
use Rattle.asl_class_text.proofs.grounds.push_own.Goals as goal

pub push_grounds-requires-clause-straight : goal.push_grounds-requires-clause-straight
push_grounds-requires-clause-straight c =
    let at = subst (λ (gs : List ToldGround). IsChainAt gs c.args.number c.in_ok-chain.chain.items) c.deref.ensures.value c.in_ok-chain.ensures in
    subst (λ (ts : List ToldStep). IsStraightAnywhere c.args.facts.now.lowering c.args.reasons.now.steps ts) (sym c.deref-then-number-len.ensures.value) (own_straight _ _ _ c.args.number _ c.requires.straight at)

pub returns-in_ok-push_grounds : goal.returns-in_ok-push_grounds
returns-in_ok-push_grounds c = λ ps h. (
    let at = subst (λ (gs : List ToldGround). IsChainAt gs c.args.number c.in_ok-chain.chain.items) c.deref.ensures.value c.in_ok-chain.ensures in
    let gone = subst (λ (ts : List ToldStep). IsGone c.args.facts.now.lowering c.args.reasons.now.steps c.args.most ts (length ts) c.args.grounds.now c.push_grounds.new.grounds) c.deref-then-number-len.ensures.value c.in_ok-push_grounds.ensures in
    grounds_more _ _ _ ps c.args.number _ _ _ at gone h)

pub returns-else-number-len : goal.returns-else-number-len
returns-else-number-len c = λ ps h. (
    let past : length c.args.grounds.now.items.items ≤ c.args.number = omega (arith, c.if-number-len.false, c.len.ensures) in
    grounds_past _ _ _ ps c.args.number _ past h)
