use Rattle.std.proofs.Common.{length, ap, sym, subst, ◌∙◌, arith}
use Rattle.asl_lane_sets.specs.NumberSet.{IsIn}
use Rattle.asl_lane_sets.proofs.Numbers.{length_told, in_told, has_told, word_there}
use Rattle.asl_lane_sets.proofs.bits.Bits.has.Goals as goal

pub lane-requires : goal.lane-requires
lane-requires c =
    let len = ap length c.self.view_is in
    word_there c.self.inside.len c.self.inside.lanes c.args.number c.self.invariant (omega (arith, len, length_told c.self.inside.len c.self.inside.lanes, c.requires))

pub returns : goal.returns
returns c =
    let is = has_told c.self.inside.lanes c.args.number c.lane.result c.lane.ensures in
    let told = in_told c.self.inside.len c.self.inside.lanes c.self.invariant c.args.number in
    (λ e. subst (λ s. IsIn s c.args.number) c.self.view_is (told.1 (sym is ∙ e)), λ e. is ∙ told.0 (subst (λ s. IsIn s c.args.number) (sym c.self.view_is) e))
