use Rattle.asl_diagnose.proofs.assembly_refusal.diagnose_assembly.Goals as goal

pub returns-in-Ok-clause-told : goal.returns-in-Ok-clause-told
returns-in-Ok-clause-told c = (c.in-Ok.program, record { spelled = c.in-Ok.ensures.spelled; verified = c.in-Ok.ensures.verified })
