use Rattle.std.proofs.lemmas.Result.{IfOk-weaker}
use Rattle.asl_emitter.proofs.fitted.fit_in_order.Goals as goal

pub returns : goal.returns
returns c = IfOk-weaker c.at_most.result _ _ (λ v is. record { fine = c.in_ok-fine.fine.items; reduced = c.in_ok-fine.ensures; is = is }) c.at_most.ensures
