use Rattle.std.proofs.Common.{subst, sym, ◌∙◌}
use Rattle.asl_lane_sets.specs.Packed.{AreLanes}
use Rattle.asl_lane_sets.proofs.Parts.{first_is_within, within_now, lanes_parts}
use Rattle.asl_lane_sets.proofs.lane_vec.LaneVec.is_within.Goals as goal

pub returns-then-first_is-clause-within : goal.returns-then-first_is-clause-within
returns-then-first_is-clause-within c =
    let both = within_now c.args.self.now c.args.other.now c.other.inside.first c.self.inside.first c.other.inside.more.items c.self.inside.more.items c.deref.result.now c.deref-2.result.now
    c.other.invariant.four c.self.invariant.four c.self.view_is c.other.view_is c.deref.ensures.value c.deref-2.ensures.value (c.are_within-first_is.ensures.within.0 c.if-first_is.true) in
    (λ e. both.0 (c.are_within-more_is.ensures.within.0 e), λ all. c.are_within-more_is.ensures.within.1 (both.1 all))

pub returns-then-first_is-clause-lanes : goal.returns-then-first_is-clause-lanes
returns-then-first_is-clause-lanes c = (
  subst AreLanes c.self.view_is (lanes_parts c.self.inside.first c.self.inside.more.items c.self.invariant.four c.are_within-first_is.ensures.lanes.0 (subst AreLanes c.deref.ensures.value c.are_within-more_is.ensures.lanes.0)),
  subst AreLanes c.other.view_is (lanes_parts c.other.inside.first c.other.inside.more.items c.other.invariant.four c.are_within-first_is.ensures.lanes.1 (subst AreLanes c.deref-2.ensures.value c.are_within-more_is.ensures.lanes.1)),
)

pub returns-else-first_is-clause-within : goal.returns-else-first_is-clause-within
returns-else-first_is-clause-within c = (
  λ e. (let never = sym c.if-first_is.false ∙ e in cc),
  λ all. c.are_within-first_is.ensures.within.1 (first_is_within c.args.self.now c.args.other.now c.other.inside.first c.self.inside.first c.other.inside.more.items c.self.inside.more.items c.deref.result.now c.deref-2.result.now
      c.other.invariant.four c.self.invariant.four c.self.view_is c.other.view_is c.deref.ensures.value c.deref-2.ensures.value all),
)

pub returns-else-first_is-clause-lanes : goal.returns-else-first_is-clause-lanes
returns-else-first_is-clause-lanes c = (
  subst AreLanes c.self.view_is (lanes_parts c.self.inside.first c.self.inside.more.items c.self.invariant.four c.are_within-first_is.ensures.lanes.0 (subst AreLanes c.deref.ensures.value c.are_within-more_is.ensures.lanes.0)),
  subst AreLanes c.other.view_is (lanes_parts c.other.inside.first c.other.inside.more.items c.other.invariant.four c.are_within-first_is.ensures.lanes.1 (subst AreLanes c.deref-2.ensures.value c.are_within-more_is.ensures.lanes.1)),
)
