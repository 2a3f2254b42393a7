use Rattle.std.proofs.Common.{◌≡◌, ◌↔◌, ◌⊎◌, ⊎_elim, ◌*◌, ◌+◌, ◌^◌, ◌<◌, ◌≤◌, ◌++◌, ◌∙◌, ℕ, List, Vec, Global, true, false, get_or, min, bit_and, length, refl, ap, sym, subst, inl, inr, arith}
use Rattle.std.specs.List.{Contains}
use Rattle.asl_lane_sets.specs.Packed.{ones}
use Rattle.asl_lane_sets.proofs.CommonNumbers.{CommonBelow, common_more, common_none, none_more, common_some, common_later, common_all, common_tells}
use Rattle.asl_lane_sets.proofs.bits.Bits.add_common.Goals as goal
use Rattle.asl_lane_sets.proofs.bits.Bits.add_common.Goals.{then-has_one+in_ok-add_members, else-has_one}

abbrev vec_items : Vec ℕ Global → List ℕ
vec_items v = v.items

pub lane-requires : goal.lane-requires
lane-requires c = omega (arith, c.loop-place-test.true, c.min-place-end.ensures, c.len.ensures, c.len-2.ensures)

pub lane-requires-in-loop-place : goal.lane-requires-in-loop-place
lane-requires-in-loop-place c = omega (arith, c.loop-place-test.true, c.min-place-end.ensures, c.len.ensures, c.len-2.ensures)

pub overflow_mul-place : goal.overflow_mul-place
overflow_mul-place c =
    let fits = c.self.invariant.fits in
    let count = c.self.invariant.count in
    let lt = c.loop-place-test.true in
    record { fits = omega (arith, fits, count, lt, c.min-place-end.ensures, c.len.ensures, c.len-2.ensures) }

pub add_members-requires : goal.add_members-requires
add_members-requires c =
    let fits = c.self.invariant.fits in
    let count = c.self.invariant.count in
    let lt = c.loop-place-test.true in
    omega (arith, fits, count, lt, c.min-place-end.ensures, c.len.ensures, c.len-2.ensures)

pub loop-place-init : goal.loop-place-init
loop-place-init c = record {
  added = λ k. (λ h. inl h, λ h. ⊎_elim (λ f. f) (λ n. (let lt = n.0 in absurd (omega (arith, lt)))) h);
  some = λ e. absurd cc;
  none = λ e k h. (let lt = h.0 in omega (arith, lt));
}

pub loop-place-preserved : goal.loop-place-preserved
loop-place-preserved c =
    let a = c.self.inside.lanes in
    let b = c.other.inside.lanes in
    let place : ℕ = c.loop-place.place in
    let both : ℕ = bit_and c.lane.result c.lane-in-loop-place.result in
    let is : both ≡ bit_and (get_or a place 0) (get_or b place 0) = ap (λ w. bit_and w c.lane-in-loop-place.result) c.lane.ensures ∙ ap (λ w. bit_and (get_or a place 0) w) c.lane-in-loop-place.ensures in
    let so = c.loop-place.invariant in
    elim c.if-has_one.branch [
      | then-has_one+in_ok-add_members w ↦
          record {
            added = common_more a b place both is c.args.list.now.items c.loop-place.list.items c.if-has_one.list.items so.added (ap vec_items w.list-is ∙ w.in_ok-add_members.ensures);
            some = λ e. common_some a b place both is (c.has_one.ensures.one w.if-has_one.true);
            none = λ e. (let yes = w.some-is in absurd cc);
          }
      | else-has_one w ↦
          let zero : both ≡ 0 = c.has_one.ensures.none w.if-has_one.false in
          record {
            added = common_more a b place both is c.args.list.now.items c.loop-place.list.items c.if-has_one.list.items so.added (ap vec_items w.list-is ∙ common_none a b place both is zero c.loop-place.list.items);
            some = λ e. common_later a b place (so.some (sym w.some-is ∙ e));
            none = λ e. none_more a b place both is zero (so.none (sym w.some-is ∙ e));
          }
    ]

pub returns-clause-numbers : goal.returns-clause-numbers
returns-clause-numbers c =
    common_all c.self.inside.len c.other.inside.len c.self.inside.lanes c.other.inside.lanes c.args.self.now c.args.other.now c.self.invariant c.other.invariant c.self.view_is c.other.view_is
    c.loop-place.place (omega (arith, c.loop-place-test.false, c.min-place-end.ensures, c.len.ensures, c.len-2.ensures)) c.args.list.now.items c.loop-place.list.items c.loop-place.invariant.added

pub returns-clause-some : goal.returns-clause-some
returns-clause-some c =
    common_tells c.self.inside.len c.other.inside.len c.self.inside.lanes c.other.inside.lanes c.args.self.now c.args.other.now c.self.invariant c.other.invariant c.self.view_is c.other.view_is
    c.loop-place.place (omega (arith, c.loop-place-test.false, c.min-place-end.ensures, c.len.ensures, c.len-2.ensures)) c.loop-place.some c.loop-place.invariant.some c.loop-place.invariant.none
