use Rattle.std.proofs.Common.{rules}
use Rattle.asl_explain.proofs.confirm_step.stays_after.Goals as goal

pub returns-then-branch-clause-stays : goal.returns-then-branch-clause-stays
returns-then-branch-clause-stays c = λ t i at.
    (_, (c.successors-successors.ensures.goes_on i at _).0 (search rules), c.in_ok-stays_to.ensures.needed c.if-branch.true, c.in_ok-stays_to.ensures.stays c.if-branch.true)
