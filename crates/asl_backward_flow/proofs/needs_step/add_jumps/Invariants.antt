use Rattle.asl_backward_flow.specs.Follows.{read, AreBefore}
use Rattle.asl_backward_flow.proofs.Befores.{Below}
use Rattle.asl_backward_flow.proofs.needs_step.add_jumps.Given as goal

abbrev pub invariant-loop-jump : goal.invariant-loop-jump
invariant-loop-jump l = AreBefore (read l.fn.analysis) l.fn.part l.fn.pc (Below (read l.fn.analysis) l.fn.part l.fn.pc l.jump-items l.jump-index) l.pcs.items
