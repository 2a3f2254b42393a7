use Rattle.std.proofs.Common.{ap, ◌∙◌, arith}
use Rattle.asl_lane_sets.specs.Packed.{told}
use Rattle.asl_lane_sets.proofs.Numbers.{told_none}
use Rattle.asl_lane_sets.proofs.bits.Bits.with_len.Goals as goal

pub zeros-requires : goal.zeros-requires
zeros-requires c = omega (arith, c.lanes_after_first.ensures)

pub returns : goal.returns
returns c = ap (told c.args.len) c.in_ok-lanes.ensures ∙ told_none c.args.len _
