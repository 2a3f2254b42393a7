use Rattle.std.proofs.Common.{subst}
use Rattle.asl_syntax.specs.AstView.{tree_of}
use Rattle.asl_emitter.specs.Refused.{IsRefusedInference}
use Rattle.asl_emitter.specs.declared.fault.InferFault.{InferFault}
use Rattle.asl_diagnose.proofs.Telling.{on_err}
use Rattle.asl_diagnose.proofs.source_refusal.told_infer.Goals as goal

pub returns-then-is_memory_of-clause-memory : goal.returns-then-is_memory_of-clause-memory
returns-then-is_memory_of-clause-memory c =
    let P : InferFault → Type 0 = λ f. IsRefusedInference (tree_of c.args.ast.now) c.args.k f in
    subst P (c.is_memory_of.ensures.memory c.if-is_memory_of.true) c.requires.refused

pub returns-in_err-bringers-clause-memory : goal.returns-in_err-bringers-clause-memory
returns-in_err-bringers-clause-memory c =
    let P : InferFault → Type 0 = λ f. IsRefusedInference (tree_of c.args.ast.now) c.args.k f in
    on_err c.from_residual.result _ (subst P c.in_err-bringers.ensures.memory.1 c.requires.refused).lowered
