use Rattle.asl_syntax.proofs.parser.make_items.Goals as goal

pub returns-in-Ok-Some-clause-ok : goal.returns-in-Ok-Some-clause-ok
returns-in-Ok-Some-clause-ok c = rw c.in-Ok-Some.field-0-is at c.in-Ok-Some.ensures
