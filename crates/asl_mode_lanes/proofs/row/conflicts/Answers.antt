use Rattle.std.proofs.Common.{◌≡◌, ◌+◌, ◌*◌, not, arith, ap, ◌∙◌, take, map}
use Rattle.std.proofs.lemmas.Bool.{ne_eqb, eq-eqb}
use Rattle.std.specs.Simd.Lanes.{mask_l}
use Rattle.asl_mode_lanes.specs.Clash.{clashes}
use Rattle.asl_mode_lanes.proofs.Masks.{chunk_step, tail_set, tail_same}
use Rattle.asl_mode_lanes.proofs.RowCodes.{in_the_way}
use Rattle.asl_mode_lanes.proofs.row.conflicts.Goals as goal
use Rattle.asl_mode_lanes.proofs.row.conflicts.Goals.{then-row-t-ne0, else-row-t-ne0}

pub overflow_add-mask : goal.overflow_add-mask
overflow_add-mask c = record {
  fits = (chunk_step (clashes c.clashing_bits-bits.result) c.args.row.now (c.loop-k.k * 16) 16 c.loop-k.mask c.from.result
      (omega arith) (omega arith) c.loop-k.invariant (c.from.ensures ∙ c.clashing_lanes.ensures)).1;
}

pub loop-k-preserved : goal.loop-k-preserved
loop-k-preserved c =
    let next : c.loop-k.k * 16 + 16 ≡ (c.loop-k.k + 1) * 16 = omega arith in
    (chunk_step (clashes c.clashing_bits-bits.result) c.args.row.now (c.loop-k.k * 16) 16 c.loop-k.mask c.from.result
    (omega arith) (omega arith) c.loop-k.invariant (c.from.ensures ∙ c.clashing_lanes.ensures)).0
    ∙ ap (λ n. mask_l (map (clashes c.clashing_bits-bits.result) (take n c.args.row.now))) next

pub overflow_add-mask-then-row-t-ne0 : goal.overflow_add-mask-then-row-t-ne0
overflow_add-mask-then-row-t-ne0 c = record {
  fits = (tail_set (clashes c.clashing_bits-bits.result) c.args.row.now c.loop-t.t c.loop-t.mask (omega arith) (omega arith) c.loop-t.invariant
      (ap not (ne_eqb _ 0 c.if-row-t-ne0.true))).1;
}

pub loop-t-preserved : goal.loop-t-preserved
loop-t-preserved c = elim c.if-row-t-ne0.branch [
  | then-row-t-ne0 w ↦
      w.mask-is
      ∙ (tail_set (clashes c.clashing_bits-bits.result) c.args.row.now c.loop-t.t c.loop-t.mask (omega arith) (omega arith) c.loop-t.invariant
      (ap not (ne_eqb _ 0 w.if-row-t-ne0.true))).0
  | else-row-t-ne0 w ↦
      w.mask-is
      ∙ tail_same (clashes c.clashing_bits-bits.result) c.args.row.now c.loop-t.t c.loop-t.mask (omega arith) c.loop-t.invariant
      (ap not (eq-eqb _ 0 w.if-row-t-ne0.false))
]

pub returns : goal.returns
returns c = in_the_way c.args.row.now c.args.own c.args.want c.loop-t.t c.loop-t.mask c.clashing_bits-bits.result c.without.result
    c.requires.codes c.clashing_bits-bits.ensures (omega arith) c.loop-t.invariant c.without.ensures
