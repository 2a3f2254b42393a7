-- the calls so far
use Rattle.asl_lower.specs.Reach.{Anywhere}
use Rattle.asl_lower.proofs.Reaching.{AreCallees}
use Rattle.asl_map.proofs.run_functions.mark_callees.Given as goal

abbrev pub invariant-loop-pc : goal.invariant-loop-pc
invariant-loop-pc l = AreCallees l.lowering Anywhere l.from l.pc l.initial.marks l.marks
