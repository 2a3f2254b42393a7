use Rattle.std.proofs.Common.{◌++◌, ◌∷◌, ◌∙◌, [], List, ap}
use Rattle.asl_machine.specs.Paused.{Rest}
use Rattle.asl_debugger.proofs.debugger.recording.write_marked.Goals as goal

pub returns-clause-mark : goal.returns-clause-mark
returns-clause-mark g c = record {
  rest = c.in_ok-ahead.ahead;
  fits = c.in_ok-ahead.ensures.fits;
  ahead = c.in_ok-ahead.ensures.step;
  items = c.push_reserved.ensures.items ∙ ap (λ (rs : List Rest). rs ++ c.in_ok-ahead.ahead ∷ []) c.in_ok-reserve.ensures.items;
}
