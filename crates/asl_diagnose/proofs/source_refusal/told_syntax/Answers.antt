use Rattle.std.proofs.Common.{inl, inr, refl, subst}
use Rattle.asl_syntax.specs.declared.fault.SyntaxFault.{SyntaxFault}
use Rattle.asl_syntax.specs.Fault.{IsFault}
use Rattle.asl_diagnose.proofs.Telling.{syntax_told, on_err}
use Rattle.asl_diagnose.proofs.source_refusal.told_syntax.Goals as goal

pub returns-clause-told : goal.returns-clause-told
returns-clause-told c =
    λ k. syntax_told c.args.source.now k _ c.args.fault c.requires (c.is_memory.ensures.real c.if-is_memory.false) refl c.syntax_place-at.ensures.place c.in_ok-expected.ensures.stop (record { line = c.line-line.ensures; column = c.column-column.ensures }) c.syntax_place-at.ensures.first c.in_ok-expected.ensures.others refl

pub returns-then-is_memory-clause-memory : goal.returns-then-is_memory-clause-memory
returns-then-is_memory-clause-memory c =
    let P : SyntaxFault → Type 0 = λ f. IsFault c.args.source.now f in
    inl (subst P (c.is_memory.ensures.memory c.if-is_memory.true) c.requires)

pub returns-in_err-expected-clause-memory : goal.returns-in_err-expected-clause-memory
returns-in_err-expected-clause-memory c = on_err c.from_residual.result _ (inr c.in_err-expected.ensures.memory)
