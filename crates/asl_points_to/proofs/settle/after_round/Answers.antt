use Rattle.asl_points_to.proofs.Keeping.{keeps_itself}
use Rattle.asl_points_to.proofs.settle.after_round.Goals as goal

pub returns-then-more-ne-FEW_ROUNDS-clause-keeps : goal.returns-then-more-ne-FEW_ROUNDS-clause-keeps
returns-then-more-ne-FEW_ROUNDS-clause-keeps c = keeps_itself c.args.draft.now
