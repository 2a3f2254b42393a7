use Rattle.std.proofs.Common.{◌<◌, ◌^◌, length, arith, refl, sym, subst, inl, inr}
use Rattle.std.proofs.lemmas.Bool.{cases_lt}
use Rattle.asl_lane_sets.proofs.Blocks.{begin_clear, more_clear, cleared_all, word_cleared}
use Rattle.asl_lane_sets.proofs.lanes.clear_lanes.Goals as goal

pub loop-place-init : goal.loop-place-init
loop-place-init c = record { cleared = begin_clear c.args.lanes.now c.args.from.now; lanes = λ k. (c.type_inv.lanes k).fits }

pub loop-place-preserved : goal.loop-place-preserved
loop-place-preserved c =
    let there : c.loop-place.place < length c.loop-place.lanes = omega (arith, c.loop-place-test.true, c.min-place-end.ensures, c.loop-place.auto.lanes) in
    let was = c.loop-place.invariant.cleared.above c.loop-place.place (omega arith) in
    record {
      cleared = more_clear c.args.lanes.now c.args.from.now c.loop-place.lanes _ c.loop-place.place _ c.loop-place.auto.lanes refl there
          (word_cleared _ _ (subst (λ n. n < 2 ^ 64) (sym was) (c.loop-place.invariant.lanes c.loop-place.place)) (c.type_inv.from c.loop-place.place).fits) c.loop-place.invariant.cleared;
      lanes = c.loop-place.invariant.lanes;
    }

pub returns : goal.returns
returns c =
    cleared_all c.args.lanes.now c.args.from.now c.loop-place.lanes c.loop-place.place
    (elim (cases_lt c.loop-place.place (length c.args.lanes.now)) [
      | inl lt ↦ inr (omega (arith, lt, c.loop-place-test.false, c.min-place-end.ensures))
      | inr le ↦ inl le
    ]) c.loop-place.invariant.cleared
