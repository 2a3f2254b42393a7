use Rattle.std.proofs.Common.{◌<◌, ◌≤◌, ◌-◌, length, get_or, ap, sym, ◌∙◌, arith, length-append}
use Rattle.std.proofs.lemmas.Grind.{get_or_default_zero}
use Rattle.asl_lane_sets.proofs.Parts.{in_first, in_more}
use Rattle.asl_lane_sets.proofs.lane_vec.LaneVec.lane.Goals as goal

pub returns-then-place-lt-LANES_OF_BLOCK : goal.returns-then-place-lt-LANES_OF_BLOCK
returns-then-place-lt-LANES_OF_BLOCK c =
    sym (in_first c.self.inside.first c.self.inside.more.items c.self.invariant.four c.args.place c.if-place-lt-LANES_OF_BLOCK.true) ∙ ap (λ l. get_or l c.args.place 0) c.self.view_is

pub index-requires : goal.index-requires
index-requires c =
    let count = ap length c.self.view_is in
    let four = c.self.invariant.four in
    let past : 4 ≤ c.args.place = omega (arith, c.if-place-lt-LANES_OF_BLOCK.false) in
    omega (arith, count, four, past, c.requires, length-append c.self.inside.first c.self.inside.more.items, c.self.inside.more.ok.0)

pub returns : goal.returns
returns c =
    let count = ap length c.self.view_is in
    let four = c.self.invariant.four in
    let past : 4 ≤ c.args.place = omega (arith, c.if-place-lt-LANES_OF_BLOCK.false) in
    let there : c.args.place - 4 < length c.self.inside.more.items = omega (arith, count, four, past, c.requires, length-append c.self.inside.first c.self.inside.more.items) in
    c.index.ensures ∙ get_or_default_zero c.self.inside.more.items (c.args.place - 4) _ there
    ∙ sym (in_more c.self.inside.first c.self.inside.more.items four c.args.place past) ∙ ap (λ l. get_or l c.args.place 0) c.self.view_is
