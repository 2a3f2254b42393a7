use Rattle.std.proofs.Common.{◌≡◌, List, Some, length, slice_get, refl, sym, subst, arith}
use Rattle.asl_class_text.specs.declared.told.ToldStep.{ToldStep}
use Rattle.asl_class_text.specs.Made.{IsStraightAnywhere, IsGone}
use Rattle.asl_class_text.proofs.Paired.{there_at}
use Rattle.asl_class_text.proofs.Grounded.{no_pairs_gone, pairs_more, pairs_all}
use Rattle.asl_class_text.proofs.grounds.pairs_grounds.Goals as goal

pub loop-pair-init : goal.loop-pair-init
loop-pair-init c = no_pairs_gone _ _ _ _ _ c.new-items.ensures.items refl

pub push_grounds-requires-clause-straight : goal.push_grounds-requires-clause-straight
push_grounds-requires-clause-straight c =
    let at = there_at c.args.pairs.now c.loop-pair.pair-index c.pair-item.result c.pair-item.result c.loop-pair-test.true c.pair-item.is in
    subst (λ (ts : List ToldStep). IsStraightAnywhere c.args.facts.now.lowering c.args.reasons.now.steps ts) (sym c.deref.ensures.value) (c.requires.straight c.loop-pair.pair-index c.pair-item.result at)

pub loop-pair-preserved : goal.loop-pair-preserved
loop-pair-preserved c =
    let at = there_at c.args.pairs.now c.loop-pair.pair-index c.pair-item.result c.pair-item.result c.loop-pair-test.true c.pair-item.is in
    pairs_more _ _ _ _ c.loop-pair.pair-index c.pair-item.result c.loop-pair.grounds c.push_grounds.new.grounds at
    (subst (λ (ts : List ToldStep). IsGone c.args.facts.now.lowering c.args.reasons.now.steps c.args.most ts (length ts) c.loop-pair.grounds c.push_grounds.new.grounds) c.deref.ensures.value c.in_ok-push_grounds.ensures) c.loop-pair.invariant

pub returns : goal.returns
returns c = pairs_all _ _ _ _ _ _ (omega arith) c.loop-pair.invariant
