use Rattle.std.proofs.Common.{◌++◌, ◌∷◌, ◌∙◌, [], List, ap}
use Rattle.asl_machine.specs.Paused.{Rest}
use Rattle.asl_debugger.proofs.checkpoints.put_checkpoint.Goals as goal

pub returns-clause-put : goal.returns-clause-put
returns-clause-put g c = record {
  rest = c.in_ok-checkpoint.checkpoint;
  fits = c.in_ok-checkpoint.ensures.fits;
  state = c.in_ok-checkpoint.ensures.state;
  items = c.push_reserved.ensures.items ∙ ap (λ (rs : List Rest). rs ++ c.in_ok-checkpoint.checkpoint ∷ []) c.in_ok-reserve.ensures.items;
}
