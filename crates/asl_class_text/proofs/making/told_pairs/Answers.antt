use Rattle.asl_class_text.proofs.making.told_pairs.Goals as goal

pub pairs_of-requires-clause-joined : goal.pairs_of-requires-clause-joined
pairs_of-requires-clause-joined c = c.requires.joined.each c.in-Some.first.now c.in-Some.others.now c.in-Some.ensures.cases.0
