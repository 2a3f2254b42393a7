use Rattle.std.proofs.Common.{◌≡◌, ap, sym, subst, ◌∙◌}
use Rattle.std.proofs.lemmas.Option.{slice_get_within, get_or_from_slice_get}
use Rattle.asl_lock_expr.specs.LinksView.{seen}
use Rattle.asl_backward_flow.specs.declared.masks.Mask.{Mask}
use Rattle.asl_backward_flow.specs.Masked.{IsMask}
use Rattle.asl_backward_flow.proofs.Masking.{masks_put, mask_clear, put_here}
use Rattle.asl_backward_flow.proofs.masks.mask_of.Goals as goal

pub extend-requires : goal.extend-requires
extend-requires c =
    subst (IsMask (seen c.args.view.now) c.args.locks.now) (sym (c.index_mut.ensures.value ∙ get_or_from_slice_get c.place_of.new.masks.list.items c.in_ok-place.place c.in_ok-place.ensures.place.0 c.index_mut.result.now c.in_ok-place.ensures.place.1))
    (c.in_ok-place.ensures.masks c.in_ok-place.place c.in_ok-place.ensures.place.0 c.in_ok-place.ensures.place.1)

pub returns-clause-masks : goal.returns-clause-masks
returns-clause-masks c =
    masks_put (seen c.args.view.now) c.args.locks.now c.place_of.new.masks.list.items c.in_ok-place.place c.extend.new.mask c.in_ok-place.ensures.masks c.in_ok-extend.ensures.mask

pub returns-clause-place : goal.returns-clause-place
returns-clause-place c =
    let was : c.index_mut.result.now ≡ c.in_ok-place.ensures.place.0 = c.index_mut.ensures.value ∙ get_or_from_slice_get c.place_of.new.masks.list.items c.in_ok-place.place c.in_ok-place.ensures.place.0 c.index_mut.result.now c.in_ok-place.ensures.place.1 in (
      c.extend.new.mask,
      put_here c.place_of.new.masks.list.items c.in_ok-place.place c.extend.new.mask (slice_get_within c.place_of.new.masks.list.items c.in_ok-place.place c.in_ok-place.ensures.place.0 c.in_ok-place.ensures.place.1),
      mask_clear (seen c.args.view.now) c.args.locks.now c.extend.new.mask c.args.touch (c.in_ok-extend.ensures.touch ∙ ap (λ (z : Mask). z.touch) was ∙ c.in_ok-place.ensures.place.2) c.in_ok-extend.ensures.mask c.in_ok-extend.ensures.all,
    )
