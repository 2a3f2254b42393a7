use Rattle.std.proofs.Common.{◌≡◌, ◌↔◌, ◌⊎◌, ◌∙◌, ◌++◌, ◌∷◌, [], List, Some, true, false, get_or, sym, ap, subst}
use Rattle.std.proofs.lemmas.Option.{slice_get-get_or}
use Rattle.std.specs.declared.cmp.Ordering.TheVariants.{Less}
use Rattle.asl_code.specs.declared.lock.Lock.{Lock}
use Rattle.asl_lock_expr.specs.Links.{IsOne}
use Rattle.asl_lock_expr.specs.Order.{lock_cmp}
use Rattle.asl_emitter.proofs.Reducing.{kept_more, kept_same, order_more, ones_more, first_less}
use Rattle.asl_emitter.proofs.reduced.keep_free.Goals as goal
use Rattle.asl_emitter.proofs.reduced.keep_free.Goals.{then-is_free+in_ok-copied+in_ok-push, else-is_free}

pub is_free-requires-clause-at : goal.is_free-requires-clause-at
is_free-requires-clause-at c = slice_get-get_or c.args.given.now c.loop-at.at c.index-given-at.result c.loop-at-test.true ∙ ap (λ (l : Lock). Some l) (sym c.index-given-at.is)

pub loop-at-preserved : goal.loop-at-preserved
loop-at-preserved c =
    let before = c.loop-at.invariant in
    let lock : Lock = c.index-given-at.result in
    let is : get_or c.args.given.now c.loop-at.at lock ≡ lock = sym c.index-given-at.is in
    let next = kept_more c.args.classes.now c.args.function c.args.given.now c.loop-at.reduced.items c.if-is_free.reduced.items c.loop-at.at lock lock c.loop-at-test.true is in
    elim c.if-is_free.branch [
      | then-is_free+in_ok-copied+in_ok-push w ↦
          let now : c.if-is_free.reduced.items ≡ c.loop-at.reduced.items ++ lock ∷ [] =
          ap (λ v. v.items) w.reduced-is ∙ w.in_ok-push.ensures.items ∙ ap (λ (l : Lock). c.loop-at.reduced.items ++ l ∷ []) w.in_ok-copied.ensures in
          record {
            order = rw now (order_more c.loop-at.reduced.items lock before.order (λ b o. subst (λ (l : Lock). lock_cmp b l ≡ Less) is (first_less c.args.given.now c.loop-at.at lock b c.requires c.loop-at-test.true ((before.kept b).0 o).0)));
            kept = next (c.is_free.ensures.0 w.if-is_free.true) (subst (λ (xs : List Lock). (a : Lock) → IsOne xs a ↔ (IsOne c.loop-at.reduced.items a ⊎ (lock ≡ a))) (sym now) (ones_more c.loop-at.reduced.items lock)) before.kept;
          }
      | else-is_free w ↦
          let now = w.reduced-is in
          record {
            order = rw now before.order;
            kept = rw now (kept_same c.args.classes.now c.args.function c.args.given.now c.loop-at.reduced.items c.loop-at.at lock lock c.loop-at-test.true is
                (λ free. (let t : c.is_free.result ≡ true = c.is_free.ensures.1 free in let n : c.is_free.result ≡ false = w.if-is_free.false in cc)) before.kept);
          }
    ]
