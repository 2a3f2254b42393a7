use Rattle.std.proofs.Common.{subst, sym, refl}
use Rattle.asl_lock_forest.specs.Node.{IsThere}
use Rattle.asl_c_forest.proofs.Laws.{class_at, can_grant_from, refused_at}
use Rattle.asl_c_forest.proofs.fits.is_free.Goals as goal

pub is_free-requires : goal.is_free-requires
is_free-requires c = record {
  class_there = subst (λ n. IsThere c.args.forest.now.classes n) (sym c.node.ensures) (class_at c.args.forest.now.classes c.args.asks.now c.loop-ask.ask-index _ c.loop-ask-test.true c.requires.classes_there);
}

pub returns-then-not-is_free-clause-refused : goal.returns-then-not-is_free-clause-refused
returns-then-not-is_free-clause-refused c is =
    refused_at c.args.forest.now.holding c.args.thread c.args.asks.now c.loop-ask.ask-index _ c.node.result c.mode.result c.loop-ask-test.true c.node.ensures c.mode.ensures c.requires.distinct
    (c.if-not-is_free.ensures.refused is)

pub loop-ask-preserved : goal.loop-ask-preserved
loop-ask-preserved c can =
    c.loop-ask.invariant
    (can_grant_from c.args.forest.now.holding c.args.thread c.args.asks.now c.loop-ask.ask-index _ c.node.result c.mode.result c.loop-ask-test.true c.node.ensures c.mode.ensures
    (c.if-not-is_free.ensures.free refl) can)
