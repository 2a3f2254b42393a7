use Rattle.std.proofs.Common.{length, ap, sym, ◌∙◌}
use Rattle.asl_lane_sets.proofs.Numbers.{length_told}
use Rattle.asl_lane_sets.proofs.bits.Bits.len.Goals as goal

pub returns : goal.returns
returns c = sym (length_told c.self.inside.len c.self.inside.lanes) ∙ ap length c.self.view_is
