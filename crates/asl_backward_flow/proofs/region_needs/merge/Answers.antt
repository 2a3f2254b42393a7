use Rattle.asl_backward_flow.proofs.Marks.{marked_all}
use Rattle.asl_backward_flow.proofs.region_needs.merge.Goals as goal

pub returns-clause-marked : goal.returns-clause-marked
returns-clause-marked c =
    marked_all c.args.sets.now.items c.args.place c.args.numbers.now c.index_mut-set.result.now c.make_room.new.set c.add_all.new.self c.requires.there c.index_mut-set.ensures.value c.requires.small
    c.in_ok-make_room.ensures.same c.add_all.ensures.numbers c.add_all.result c.add_all.ensures.grew
