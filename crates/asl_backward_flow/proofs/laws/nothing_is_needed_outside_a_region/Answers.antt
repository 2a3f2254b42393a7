use Rattle.asl_backward_flow.proofs.Leasts.{needed_inside}
use Rattle.asl_backward_flow.proofs.Ending.{none_at_end}
use Rattle.asl_backward_flow.proofs.laws.nothing_is_needed_outside_a_region.Goals as goal

pub returns : goal.returns
returns c = record {
  outside = λ l k stores k_limit r pc n needed. needed_inside l k stores k_limit r pc n needed;
  end = λ l k stores k_limit r pc n kept end needed. none_at_end l k stores k_limit kept r pc n end needed;
}
