use Rattle.asl_class_text.proofs.Paired.{two_members}
use Rattle.asl_class_text.proofs.making.pair_of.Goals as goal

pub chain_of-requires-clause-two : goal.chain_of-requires-clause-two
chain_of-requires-clause-two c = two_members c.args.first c.args.second c.requires.order
