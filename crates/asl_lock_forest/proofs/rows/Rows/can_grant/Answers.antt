use Rattle.std.proofs.Common.{get_or, sym, subst, arith, inl, inr}
use Rattle.std.proofs.lemmas.Bool.Decides.{eqb_tells}
use Rattle.asl_mode_lanes.specs.declared.mode.Mode.TheVariants.{NL}
use Rattle.asl_lock_forest.specs.declared.node.Node.TheVariants.{Root}
use Rattle.asl_lock_forest.specs.Rows.{IsFree, Blocks}
use Rattle.asl_lock_forest.proofs.RowsLaws.{any_default}
use Rattle.asl_lock_forest.proofs.RequestRows.{asked_at}
use Rattle.asl_lock_forest.proofs.rows.Rows.can_grant.Goals as goal

pub loop-ask-preserved : goal.loop-ask-preserved
loop-ask-preserved c k below = elim (eqb_tells k c.loop-ask.ask-index) [
  | inl here ↦ subst (λ n. IsFree c.args.self.now c.args.thread (get_or c.args.request.now n (Root, NL)).0 (get_or c.args.request.now n (Root, NL)).1) (sym here.1) (c.is_free.ensures.free c.if-not-is_free.false)
  | inr other ↦ c.loop-ask.invariant k (omega (arith, below, other.1))
]

pub returns-clause-free : goal.returns-clause-free
returns-clause-free c _ k d there =
    subst (λ ask. IsFree c.args.self.now c.args.thread ask.0 ask.1) (any_default c.args.request.now k (Root, NL) d there) (c.loop-ask.invariant k (omega (arith, there, c.loop-ask-test.false)))

pub returns-then-not-is_free-clause-blocked : goal.returns-then-not-is_free-clause-blocked
returns-then-not-is_free-clause-blocked c _ =
    let ask = get_or c.args.request.now c.loop-ask.ask-index (Root, NL) in
    (ask.0, subst (Blocks c.args.self.now c.args.thread ask.0) (sym (asked_at c.args.request.now c.loop-ask.ask-index (Root, NL) c.requires.distinct c.loop-ask-test.true)) (c.is_free.ensures.blocked c.if-not-is_free.true))
