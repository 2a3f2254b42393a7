use Rattle.asl_grammar.proofs.control_step.step.Goals as goal

-- the helpers tell the table in a block of each kind
pub returns-in-AfterThen : goal.returns-in-AfterThen
returns-in-AfterThen c = rw c.in-AfterThen.is (c.else_step.ensures c.args.kind)

pub returns-in-Target : goal.returns-in-Target
returns-in-Target c = rw c.in-Target.is (c.target_step.ensures c.args.kind)
