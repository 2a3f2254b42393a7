use Rattle.std.proofs.Common.{◌≡◌, inl, inr, arith, ◌∙◌, refl}
use Rattle.std.proofs.lemmas.Result.{err_from_is_err_and}
use Rattle.asl_loader.proofs.Loads.{found_is, refused_is, only_is, only_memory, not_both}
use Rattle.asl_loader.proofs.image_bytes.load.Goals as goal

pub returns-in_err-image-clause-only : goal.returns-in_err-image-clause-only
returns-in_err-image-clause-only c i s v =
    let p = err_from_is_err_and c.from_residual.result c.from_residual.ensures.1 in
    let out = only_memory c.args.bytes.now c.in_err-image.field-0.0 i c.in_err-image.ensures s v in
    inr (rw (p.1, p.2, out) refl)

pub returns-in_err-image-clause-refused : goal.returns-in_err-image-clause-refused
returns-in_err-image-clause-refused c =
    let p = err_from_is_err_and c.from_residual.result c.from_residual.ensures.1 in
    rw (p.1, p.2) (refused_is c.args.bytes.now c.in_err-image.field-0.0 (λ i. omega (arith, c.type_inv.bytes i)) c.in_err-image.ensures)

pub returns-in-Ok-clause-found : goal.returns-in-Ok-clause-found
returns-in-Ok-clause-found c = rw c.in-Ok.ensures.program (found_is c.args.bytes.now c.in_ok-image.image (λ i. omega (arith, c.type_inv.bytes i)) c.in_ok-image.ensures)

pub returns-in-Ok-clause-only : goal.returns-in-Ok-clause-only
returns-in-Ok-clause-only c i s v =
    let same : c.in-Ok.program ≡ i = c.in-Ok.ensures.program ∙ only_is c.args.bytes.now c.in_ok-image.image i c.in_ok-image.ensures s in
    inl (rw same refl)

pub returns-in-Err-clause-only : goal.returns-in-Err-clause-only
returns-in-Err-clause-only c i s v =
    let same = only_is c.args.bytes.now c.in_ok-image.image i c.in_ok-image.ensures s in
    absurd (not_both i c.in-Err.fault v (rw same at c.in-Err.ensures.fault))

pub returns-in-Err-clause-refused : goal.returns-in-Err-clause-refused
returns-in-Err-clause-refused c = (c.in_ok-image.image, found_is c.args.bytes.now c.in_ok-image.image (λ i. omega (arith, c.type_inv.bytes i)) c.in_ok-image.ensures, c.in-Err.ensures.fault)
