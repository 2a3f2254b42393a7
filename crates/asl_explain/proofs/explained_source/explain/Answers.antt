use Rattle.asl_explain.proofs.Explaining.{made_explained}
use Rattle.asl_explain.proofs.explained_source.explain.Goals as goal

pub returns-in-Ok-clause-explained : goal.returns-in-Ok-clause-explained
returns-in-Ok-clause-explained c = made_explained c.args.source.now c.args.k c.in_ok-analysis.analysis c.in_ok-analysis.ensures.analysed c.in-Ok.explanation c.in-Ok.ensures
