use Rattle.asl_explain.proofs.Opening.{opened}
use Rattle.asl_explain.proofs.opened_explanation.open_explanation.Goals as goal

pub returns-in-Ok-clause-opened : goal.returns-in-Ok-clause-opened
returns-in-Ok-clause-opened c =
    opened c.args.source.now c.args.k (record { analysis = c.in_ok-analysis.analysis; lists = c.in-Ok.lists }) c.in_ok-analysis.ensures.analysed c.in-Ok.ensures.lists c.in-Ok.ensures.rest
