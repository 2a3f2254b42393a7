use Rattle.std.proofs.Common.{not, eqb, bit_and, map, ap, ◌∙◌, arith, w8}
use Rattle.std.proofs.Common.{cond, ◌%◌, ◌^◌, replicate}
use Rattle.std.specs.Simd.Lanes.{chunk, mask_l, top, zip2}
use Rattle.std.proofs.lemmas.Simd.{length-chunk, bitmask_splat, zip2_splat, map-map}
use Rattle.std.proofs.lemmas.List.{length-map}
use Rattle.asl_mode_lanes.proofs.row.clashing_lanes.Goals as goal

pub returns : goal.returns
returns c =
    let v = chunk c.args.at 16 c.args.row.now in
    let long = length-chunk c.args.at 16 c.args.row.now c.requires in
    let found = zip2_splat bit_and v 16 c.args.bits long in
    ap (λ l. mask_l (map (top 7) (zip2 (λ a b. cond (not (eqb a b)) 255 0) l (replicate 16 0))) % 2 ^ 64) found
    ∙ bitmask_splat w8 (λ a b. not (eqb a b)) (map (λ x. bit_and x c.args.bits) v) 16 0 (length-map v (λ x. bit_and x c.args.bits) ∙ long) (omega arith)
    ∙ ap mask_l (map-map (λ x. not (eqb x 0)) (λ x. bit_and x c.args.bits) v)
