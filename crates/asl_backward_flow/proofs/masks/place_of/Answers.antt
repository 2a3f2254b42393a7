use Rattle.std.proofs.Common.{◌≡◌, length, refl, sym, subst, arith}
use Rattle.asl_lock_expr.specs.LinksView.{seen}
use Rattle.asl_backward_flow.specs.Masked.{AreMasks, IsMaskOf}
use Rattle.asl_backward_flow.proofs.Masking.{masks_push, mask_there}
use Rattle.asl_backward_flow.proofs.masks.place_of.Goals as goal

pub returns-clause-masks : goal.returns-clause-masks
returns-clause-masks c =
    subst (AreMasks (seen c.args.view.now) c.args.locks.now) (sym c.in_ok-push.ensures.items) (masks_push (seen c.args.view.now) c.args.locks.now c.args.masks.now.list.items _ refl c.requires)

pub returns-clause-place : goal.returns-clause-place
returns-clause-place c =
    let place : length c.args.masks.now.list.items ≡ c.len-place.result = omega (arith, c.len-place.ensures, c.args.masks.now.list.ok.0) in
    subst (IsMaskOf c.args.touch c.push.new.self.items) place
    (subst (λ l. IsMaskOf c.args.touch l (length c.args.masks.now.list.items)) (sym c.in_ok-push.ensures.items) (mask_there (seen c.args.view.now) c.args.locks.now c.args.masks.now.list.items c.args.touch _ refl))
