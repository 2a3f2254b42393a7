use Rattle.std.proofs.Common.{string_bytes}
use Rattle.asl_explain.proofs.Explaining.{made_text}
use Rattle.asl_explain.proofs.explained_source.explained.Goals as goal

pub returns-in-Ok-clause-told : goal.returns-in-Ok-clause-told
returns-in-Ok-clause-told c = made_text c.args.source.now c.args.k c.in_ok-analysis.analysis c.in_ok-analysis.ensures.analysed c.args.all (string_bytes c.in-Ok.text) c.in-Ok.ensures
