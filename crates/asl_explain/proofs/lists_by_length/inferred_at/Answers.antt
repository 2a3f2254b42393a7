use Rattle.asl_explain.proofs.lists_by_length.inferred_at.Goals as goal

pub returns-in_ok-inferred-in-Ok-clause-longer : goal.returns-in_ok-inferred-in-Ok-clause-longer
returns-in_ok-inferred-in-Ok-clause-longer c = λ t longer le. (c.in-Ok.flow, c.is_settled-is_last.ensures t longer le, c.in_ok-inferred-in-Ok.ensures)
