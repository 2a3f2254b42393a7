use Rattle.asl_class_text.proofs.Chaining.{Along}
use Rattle.asl_class_text.proofs.chain.told_chain.Given as goal

abbrev pub invariant-loop-link : goal.invariant-loop-link
invariant-loop-link l = Along l.steps l.fn.from l.links l.into l.at l.link-index l.chain.items
