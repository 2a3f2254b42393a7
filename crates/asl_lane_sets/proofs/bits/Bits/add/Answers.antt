use Rattle.std.proofs.Common.{◌≡◌, ◌<◌, ◌↔◌, ◌⊎◌, ◌*◌, ◌^◌, ◌/◌, ◌%◌, length, slice_set, bit_or, ap, sym, subst, ◌∙◌, arith}
use Rattle.asl_lane_sets.specs.NumberSet.{IsIn}
use Rattle.asl_lane_sets.specs.Packed.{IsPacked, told}
use Rattle.asl_lane_sets.proofs.Numbers.{length_told, packed_added, in_added, word_there}
use Rattle.asl_lane_sets.proofs.bits.Bits.add.Goals as goal

pub lane-lane-requires : goal.lane-lane-requires
lane-lane-requires c =
    let len = ap length c.self.view_is in
    word_there c.self.inside.len c.self.inside.lanes c.args.number c.self.invariant (omega (arith, len, length_told c.self.inside.len c.self.inside.lanes, c.requires))

pub put-requires : goal.put-requires
put-requires c =
    let len = ap length c.self.view_is in
    word_there c.self.inside.len c.self.inside.lanes c.args.number c.self.invariant (omega (arith, len, length_told c.self.inside.len c.self.inside.lanes, c.requires))

pub invariant_of-self : goal.invariant_of-self
invariant_of-self c =
    let len = ap length c.self.view_is in
    let below : c.args.number < c.self.inside.len = omega (arith, len, length_told c.self.inside.len c.self.inside.lanes, c.requires) in
    let there = word_there c.self.inside.len c.self.inside.lanes c.args.number c.self.invariant below in
    let is = c.put.ensures ∙ ap (λ w. slice_set c.self.inside.lanes (c.args.number / 64) (bit_or w (1 * 2 ^ (c.args.number % 64) % 2 ^ 64))) c.lane-lane.ensures in
    subst (IsPacked c.self.inside.len) (sym is) (packed_added c.self.inside.lanes c.args.number there c.self.inside.len below c.self.invariant)

pub returns-clause-numbers : goal.returns-clause-numbers
returns-clause-numbers c k =
    let len = ap length c.self.view_is in
    let below : c.args.number < c.self.inside.len = omega (arith, len, length_told c.self.inside.len c.self.inside.lanes, c.requires) in
    let there = word_there c.self.inside.len c.self.inside.lanes c.args.number c.self.invariant below in
    let is = c.put.ensures ∙ ap (λ w. slice_set c.self.inside.lanes (c.args.number / 64) (bit_or w (1 * 2 ^ (c.args.number % 64) % 2 ^ 64))) c.lane-lane.ensures in
    subst (λ s. IsIn (told c.self.inside.len c.put.new.self) k ↔ (IsIn s k ⊎ (k ≡ c.args.number))) c.self.view_is
    (subst (λ ws. IsIn (told c.self.inside.len ws) k ↔ (IsIn (told c.self.inside.len c.self.inside.lanes) k ⊎ (k ≡ c.args.number))) (sym is)
    (in_added c.self.inside.lanes c.args.number there c.self.inside.len below c.self.invariant k))
