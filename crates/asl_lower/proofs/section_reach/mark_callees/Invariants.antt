-- the calls so far
use Rattle.asl_lower.specs.LegalLowering.{lowered_of}
use Rattle.asl_lower.specs.Reach.{where_of}
use Rattle.asl_lower.proofs.Depths.{IsDepth}
use Rattle.asl_lower.proofs.Reaching.{AreCallees}
use Rattle.asl_lower.proofs.section_reach.mark_callees.Given as goal

abbrev pub invariant-loop-pc : goal.invariant-loop-pc
invariant-loop-pc l = record {
  depth : IsDepth l.draft.out.code.items l.pc l.depth;
  callees : AreCallees (lowered_of l.draft) (where_of l.calls) l.from l.pc l.initial.marks l.marks;
}
