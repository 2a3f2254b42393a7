use Rattle.std.proofs.Common.{sym, subst}
use Rattle.asl_backward_flow.specs.Needed.{region_of}
use Rattle.asl_explain.specs.Chains.{Needs}
use Rattle.asl_explain.specs.Analysed.{read}
use Rattle.asl_explain.proofs.Confirming.{stands_here}
use Rattle.asl_explain.proofs.confirm_step.find_here.Goals as goal

pub returns : goal.returns
returns c =
    let a = c.args.analysis.now in
    let s = c.args.step.now in
    stands_here a (region_of s.region) s.pc c.in_ok-function.function c.in_ok-instr.instr s.lock
    (subst (λ pc. Needs (read a) (region_of s.region) pc s.lock) c.from.ensures (c.is_needed.ensures c.if-not-is_needed.false)) c.in_ok-function.ensures (sym c.in_ok-instr.ensures)
