use Rattle.asl_backward_flow.proofs.Marks.{marked_had, marked_new}
use Rattle.asl_backward_flow.proofs.region_needs.mark.Goals as goal

pub returns-then-has-clause-marked : goal.returns-then-has-clause-marked
returns-then-has-clause-marked c =
    marked_had c.args.sets.now.items c.args.place c.args.number c.index_mut-set.result.now c.make_room.new.set c.requires.there c.index_mut-set.ensures.value c.requires.small
    c.in_ok-make_room.ensures.same c.has.result c.has.ensures c.if-has.true

pub returns-clause-marked : goal.returns-clause-marked
returns-clause-marked c =
    marked_new c.args.sets.now.items c.args.place c.args.number c.index_mut-set.result.now c.make_room.new.set c.requires.there c.index_mut-set.ensures.value c.requires.small
    c.in_ok-make_room.ensures.same c.has.result c.has.ensures c.add.new.self c.add.ensures.numbers c.if-has.false
