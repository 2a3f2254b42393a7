use Rattle.std.proofs.Common.{⊎_elim, ◌∙◌, sym, subst}
use Rattle.asl_lane_sets.specs.Packed.{AreLanes}
use Rattle.asl_lane_sets.proofs.Parts.{joined_now, first_grew, more_grew, some_grew, lanes_parts}
use Rattle.asl_lane_sets.proofs.lane_vec.LaneVec.merge.Goals as goal
use Rattle.asl_lane_sets.proofs.lane_vec.LaneVec.merge.Goals.{then-first_grew, else-first_grew}

pub returns-clause-joined : goal.returns-clause-joined
returns-clause-joined c =
    joined_now c.args.self.now c.args.other.now c.self.inside.first c.other.inside.first c.merge_lanes-first_grew.new.into c.self.inside.more.items c.other.inside.more.items
    c.deref_mut.result.now c.deref.result.now c.merge_lanes-more_grew.new.into c.self.inside.more.len c.self.invariant.four c.other.invariant.four c.self.view_is c.other.view_is
    c.deref_mut.ensures.value c.deref.ensures.value (c.merge_lanes-more_grew.ensures.joined.0 ∙ c.deref_mut.ensures.len) c.merge_lanes-first_grew.ensures.joined c.merge_lanes-more_grew.ensures.joined

pub returns-clause-grew : goal.returns-clause-grew
returns-clause-grew c =
    let one = first_grew c.args.self.now c.args.other.now c.self.inside.first c.other.inside.first c.merge_lanes-first_grew.new.into c.self.inside.more.items c.other.inside.more.items
    c.deref_mut.result.now c.deref.result.now c.merge_lanes-more_grew.new.into c.self.inside.more.len c.self.invariant.four c.other.invariant.four c.self.view_is c.other.view_is
    c.deref_mut.ensures.value c.deref.ensures.value (c.merge_lanes-more_grew.ensures.joined.0 ∙ c.deref_mut.ensures.len) c.merge_lanes-first_grew.ensures.joined c.merge_lanes-more_grew.ensures.joined in
    let two = more_grew c.args.self.now c.args.other.now c.self.inside.first c.other.inside.first c.merge_lanes-first_grew.new.into c.self.inside.more.items c.other.inside.more.items
    c.deref_mut.result.now c.deref.result.now c.merge_lanes-more_grew.new.into c.self.inside.more.len c.self.invariant.four c.other.invariant.four c.self.view_is c.other.view_is
    c.deref_mut.ensures.value c.deref.ensures.value (c.merge_lanes-more_grew.ensures.joined.0 ∙ c.deref_mut.ensures.len) c.merge_lanes-first_grew.ensures.joined c.merge_lanes-more_grew.ensures.joined in
    let either = some_grew c.args.self.now c.args.other.now c.self.inside.first c.other.inside.first c.merge_lanes-first_grew.new.into c.self.inside.more.items c.other.inside.more.items
    c.deref_mut.result.now c.deref.result.now c.merge_lanes-more_grew.new.into c.self.inside.more.len c.self.invariant.four c.other.invariant.four c.self.view_is c.other.view_is
    c.deref_mut.ensures.value c.deref.ensures.value (c.merge_lanes-more_grew.ensures.joined.0 ∙ c.deref_mut.ensures.len) c.merge_lanes-first_grew.ensures.joined c.merge_lanes-more_grew.ensures.joined in
    elim c.if-first_grew.branch [
      | then-first_grew w ↦ (λ e. one (c.merge_lanes-first_grew.ensures.grew.0 w.if-first_grew.true), λ d. w.result-is ∙ w.if-first_grew.true)
      | else-first_grew w ↦ (
        λ e. two (c.merge_lanes-more_grew.ensures.grew.0 (sym w.result-is ∙ e)),
        λ d. ⊎_elim (λ a. let is = c.merge_lanes-first_grew.ensures.grew.1 a in let isnt = w.if-first_grew.false in cc) (λ b. w.result-is ∙ c.merge_lanes-more_grew.ensures.grew.1 b) (either d),
      )
    ]

pub returns-clause-lanes : goal.returns-clause-lanes
returns-clause-lanes c = (
  subst AreLanes c.self.view_is (lanes_parts c.self.inside.first c.self.inside.more.items c.self.invariant.four c.merge_lanes-first_grew.ensures.lanes.0 (subst AreLanes c.deref_mut.ensures.value c.merge_lanes-more_grew.ensures.lanes.0)),
  subst AreLanes c.other.view_is (lanes_parts c.other.inside.first c.other.inside.more.items c.other.invariant.four c.merge_lanes-first_grew.ensures.lanes.1 (subst AreLanes c.deref.ensures.value c.merge_lanes-more_grew.ensures.lanes.1)),
)
