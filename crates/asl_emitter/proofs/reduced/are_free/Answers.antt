use Rattle.std.proofs.Common.{◌∙◌, Some, ap, sym, subst, inl, inr}
use Rattle.std.proofs.lemmas.Option.{slice_get-get_or}
use Rattle.asl_code.specs.declared.lock.Lock.{Lock}
use Rattle.asl_lock_expr.specs.Links.{IsOne}
use Rattle.asl_emitter.specs.Lists.{IsFree}
use Rattle.asl_emitter.proofs.Reducing.{one_of_more}
use Rattle.asl_emitter.proofs.reduced.are_free.Goals as goal

pub is_free-requires-clause-at : goal.is_free-requires-clause-at
is_free-requires-clause-at c = slice_get-get_or c.args.given.now c.loop-at.at c.index-given-at.result c.loop-at-test.true ∙ ap (λ (l : Lock). Some l) (sym c.index-given-at.is)

pub loop-at-preserved : goal.loop-at-preserved
loop-at-preserved c a o = elim (one_of_more c.args.given.now c.loop-at.at c.index-given-at.result a c.loop-at-test.true o) [
  | inl p ↦ c.loop-at.invariant a p
  | inr e ↦ subst (IsFree c.args.classes.now c.args.function (IsOne c.args.given.now)) (c.index-given-at.is ∙ e) (c.is_free.ensures.0 c.if-not-is_free.false)
]
