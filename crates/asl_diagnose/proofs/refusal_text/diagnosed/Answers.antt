use Rattle.std.proofs.Common.{inl, inr, Bool, Option}
use Rattle.asl_diagnose.specs.declared.diagnosis.Diagnosis.{Diagnosis}
use Rattle.asl_diagnose.specs.RefusalText.{IsAnswer}
use Rattle.asl_diagnose.proofs.Telling.{on_err, some_told}
use Rattle.asl_diagnose.proofs.refusal_text.diagnosed.Goals as goal

pub returns-clause-told : goal.returns-clause-told
returns-clause-told c = record { told = c.in_ok-told.told; answer = c.in_ok-told.ensures.told; spelled = c.in_ok-text.ensures.spelled }

pub returns-in_err-told-clause-memory : goal.returns-in_err-told-clause-memory
returns-in_err-told-clause-memory c = on_err _ _ (inl c.in_err-told.ensures.memory)

pub returns-in_err-text-clause-memory : goal.returns-in_err-text-clause-memory
returns-in_err-text-clause-memory c =
    on_err _ _ (inr (some_told c.in_ok-told.told (λ (o : Option Diagnosis). IsAnswer c.args.input.now c.args.is_assembly c.args.k o) c.in_err-text.ensures.memory c.in_ok-told.ensures.told))
