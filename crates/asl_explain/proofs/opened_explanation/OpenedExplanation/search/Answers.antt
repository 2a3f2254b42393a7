use Rattle.asl_explain.specs.Analysed.{read}
use Rattle.asl_explain.proofs.opened_explanation.OpenedExplanation.search.Goals as goal

pub returns : goal.returns
returns c = c.new-known.ensures (read c.args.self.now.analysis)
