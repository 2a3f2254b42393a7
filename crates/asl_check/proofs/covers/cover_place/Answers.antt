use Rattle.std.proofs.Common.{◌≡◌, ◌+◌, true, false, ap, sym, ◌∙◌, subst, inl, inr}
use Rattle.asl_code.specs.declared.lock.Lock.{Lock}
use Rattle.asl_lock_expr.specs.Links.{IsOne}
use Rattle.asl_soundness.specs.Covering.{CoversLock}
use Rattle.asl_emitter.proofs.Reducing.{one_of_more, one_at}
use Rattle.asl_check.proofs.covers.cover_place.Goals as goal

pub returns-then-covers_lock : goal.returns-then-covers_lock
returns-then-covers_lock c = (c.over-item.result, subst (IsOne c.args.list.now) (sym c.over-item.is) (one_at c.args.list.now c.loop-over.over-index c.over-item.result c.loop-over-test.true), c.covers_lock.ensures.0 c.if-covers_lock.true)

pub loop-over-preserved : goal.loop-over-preserved
loop-over-preserved c = record {
  bare = λ u.
      elim (one_of_more c.args.list.now c.loop-over.over-index c.over-item.result u.0 c.loop-over-test.true u.1) [
        | inl p ↦ c.loop-over.invariant.bare (u.0, p, u.2)
        | inr e ↦
            let found : c.covers_lock.result ≡ true = c.covers_lock.ensures.1 (subst (λ (x : Lock). CoversLock c.args.classes.now c.args.function x c.args.lock.now) (sym (c.over-item.is ∙ e)) u.2) in
            let none : c.covers_lock.result ≡ false = c.if-covers_lock.false in
            cc
      ];
  place = ap (λ n. n + 1) c.loop-over.invariant.place;
}
