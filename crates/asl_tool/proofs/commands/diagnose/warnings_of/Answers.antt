use Rattle.std.proofs.Common.{inl}
use Rattle.std.proofs.lemmas.Result.{IfOk-weaker}
use Rattle.asl_tool.proofs.commands.diagnose.warnings_of.Goals as goal

pub returns-in-Ok : goal.returns-in-Ok
returns-in-Ok c = IfOk-weaker c.warnings_text.result _ _ (λ text same. inl (c.in-Ok.known, c.in-Ok.ensures.known, same)) c.warnings_text.ensures
