use Rattle.std.proofs.Common.{◌≡◌, ◌∙◌, Some, None, ap, sym, eqb-true, eq-eqb}
use Rattle.asl_backward_flow.proofs.Sets.{some_same}
use Rattle.asl_backward_flow.proofs.graph.may_jump_to.Goals as goal

pub returns-in-Some : goal.returns-in-Some
returns-in-Some c = (λ e. sym c.in-Some.ensures ∙ ap Some (eqb-true _ _ e), λ e. eq-eqb _ _ (some_same (c.in-Some.ensures ∙ e)))

pub returns-in-None : goal.returns-in-None
returns-in-None c = (λ e. absurd cc, λ e. (let never : None ≡ Some c.args.to = c.in-None.ensures ∙ e in absurd cc))
