use Rattle.std.proofs.Common.{subst}
use Rattle.asl_syntax.specs.declared.fault.SyntaxFault.{SyntaxFault}
use Rattle.asl_syntax.specs.Fault.{IsFault}
use Rattle.asl_diagnose.proofs.Telling.{on_err}
use Rattle.asl_diagnose.proofs.source_refusal.expected_for.Goals as goal

pub returns-in-Grammar-clause-memory : goal.returns-in-Grammar-clause-memory
returns-in-Grammar-clause-memory c =
    let P : SyntaxFault → Type 0 = λ f. IsFault c.args.source.now f in
    on_err c.expected_at_stop.result _ (_, subst P c.in-Grammar.is c.requires)
