use Rattle.std.proofs.Common.{inl}
use Rattle.asl_syntax.specs.AstView.{tree_of}
use Rattle.asl_diagnose.proofs.Telling.{on_err}
use Rattle.asl_diagnose.proofs.source_refusal.diagnose_source.Goals as goal

pub returns-in-Ok-clause-memory : goal.returns-in-Ok-clause-memory
returns-in-Ok-clause-memory c = on_err c.diagnose_tree.result _ (inl (record { tree = tree_of c.in-Ok.ast; parses = c.in-Ok.ensures.ok }))

pub returns-in_ok-told_syntax-in-Err-clause-told : goal.returns-in_ok-told_syntax-in-Err-clause-told
returns-in_ok-told_syntax-in-Err-clause-told c = c.in_ok-told_syntax-in-Err.ensures.told c.args.k
