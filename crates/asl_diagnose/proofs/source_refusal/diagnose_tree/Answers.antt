use Rattle.asl_syntax.specs.AstView.{tree_of}
use Rattle.asl_diagnose.proofs.Telling.{infer_told, on_err}
use Rattle.asl_diagnose.proofs.source_refusal.diagnose_tree.Goals as goal

pub returns-in-Ok-clause-told : goal.returns-in-Ok-clause-told
returns-in-Ok-clause-told c = record { tree = tree_of c.args.ast.now; parsed = c.requires.parses; accepted = c.in-Ok.ensures.accepted }

pub returns-in_ok-told_infer-in-Err-clause-told : goal.returns-in_ok-told_infer-in-Err-clause-told
returns-in_ok-told_infer-in-Err-clause-told c =
    infer_told c.args.source.now c.args.k _ c.in-Err.fault (tree_of c.args.ast.now) c.requires.parses c.in-Err.ensures.refused c.in_ok-told_infer-in-Err.ensures.real c.in_ok-told_infer-in-Err.ensures.refusal c.in_ok-told_infer-in-Err.ensures.place c.in_ok-told_infer-in-Err.ensures.position c.in_ok-told_infer-in-Err.ensures.first c.in_ok-told_infer-in-Err.ensures.kinds c.in_ok-told_infer-in-Err.ensures.bringers

pub returns-in_err-told_infer-in-Err-clause-memory : goal.returns-in_err-told_infer-in-Err-clause-memory
returns-in_err-told_infer-in-Err-clause-memory c = on_err c.from_residual.result _ c.in_err-told_infer-in-Err.ensures.memory
