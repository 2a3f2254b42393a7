use Rattle.std.proofs.lemmas.Result.{IfOk-weaker}
use Rattle.asl_c_programs.proofs.opening.keep_source.Goals as goal

pub returns-in-Ok-clause-known : goal.returns-in-Ok-clause-known
returns-in-Ok-clause-known c = IfOk-weaker c.keep.result _ _ (λ b same. (c.in-Ok.facts, same, c.in-Ok.ensures)) c.keep.ensures.facts
