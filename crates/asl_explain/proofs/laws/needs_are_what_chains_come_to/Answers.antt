use Rattle.asl_explain.proofs.Reasons.{chain_found, chain_need, step_need}
use Rattle.asl_explain.proofs.laws.needs_are_what_chains_come_to.Goals as goal

pub returns-clause-found : goal.returns-clause-found
returns-clause-found c = chain_found

pub returns-clause-needed : goal.returns-clause-needed
returns-clause-needed c = chain_need

pub returns-clause-steps : goal.returns-clause-steps
returns-clause-steps c = step_need
