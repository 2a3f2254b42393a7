use Rattle.std.proofs.Common.{rules, ◌≡◌, ◌+◌, Some, true, inl, inr, refl, sym, subst, ap, ◌∙◌, slice_get}
use Rattle.std.proofs.lemmas.Option.{slice_get-get_or}
use Rattle.asl_code.specs.declared.lock.Lock.{Lock}
use Rattle.asl_lock_expr.specs.LinksView.{seen}
use Rattle.asl_backward_flow.specs.declared.masks.Mask.{Mask}
use Rattle.asl_backward_flow.specs.Masked.{IsMask}
use Rattle.asl_backward_flow.proofs.Masking.{mask_more}
use Rattle.asl_backward_flow.proofs.masks.extend.Goals.{then-not-is_clear+in_ok-add_number, else-not-is_clear}
use Rattle.asl_backward_flow.proofs.masks.extend.Goals as goal

-- the mask of one lock more
abbrev next : Mask → Mask
next x = record { touch = x.touch; below = x.below + 1; touched = x.touched }

pub loop-mask-preserved : goal.loop-mask-preserved
loop-mask-preserved c =
    let lock : Lock = c.index-locks-mask.result in
    let at : slice_get c.args.locks.now c.loop-mask.mask.below ≡ Some lock = slice_get-get_or c.args.locks.now c.loop-mask.mask.below lock c.loop-mask-test.true ∙ ap Some (sym c.index-locks-mask.is) in
    let both : IsMask (seen c.args.view.now) c.args.locks.now (next c.if-not-is_clear.mask) × (c.if-not-is_clear.mask.touch ≡ c.args.mask.now.touch) =
    elim c.if-not-is_clear.branch [
      | then-not-is_clear+in_ok-add_number w ↦
          subst (λ (x : Mask). IsMask (seen c.args.view.now) c.args.locks.now (next x) × (x.touch ≡ c.args.mask.now.touch)) (sym w.mask-is)
          (mask_more (seen c.args.view.now) c.args.locks.now c.loop-mask.mask w.add_number.new.set lock at (λ k h. (w.in_ok-add_number.ensures k).1 (inl h)) (inl ((w.in_ok-add_number.ensures c.loop-mask.mask.below).1 (inr refl))) c.loop-mask.invariant.mask, c.loop-mask.invariant.touch)
      | else-not-is_clear w ↦
          let clear : c.is_clear.result ≡ true = search (rules, w.if-not-is_clear.false) in
          subst (λ (x : Mask). IsMask (seen c.args.view.now) c.args.locks.now (next x) × (x.touch ≡ c.args.mask.now.touch)) (sym w.mask-is)
          (mask_more (seen c.args.view.now) c.args.locks.now c.loop-mask.mask c.loop-mask.mask.touched lock at (λ k h. h) (inr (c.is_clear.ensures clear)) c.loop-mask.invariant.mask, c.loop-mask.invariant.touch)
    ] in
    record { mask = both.0; touch = both.1 }
