-- the chain was gone through so far
use Rattle.asl_class_text.specs.Made.{IsGone}
use Rattle.asl_class_text.proofs.grounds.push_grounds.Given as goal

abbrev pub invariant-loop-number : goal.invariant-loop-number
invariant-loop-number l = IsGone l.facts.lowering l.reasons.steps l.most l.chain l.number l.initial.grounds l.grounds
