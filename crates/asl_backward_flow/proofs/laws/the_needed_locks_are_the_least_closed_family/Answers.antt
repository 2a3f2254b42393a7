use Rattle.std.specs.Prelude.{IsTrue}
use Rattle.asl_backward_flow.proofs.Leasts.{needed_closed, needed_least}
use Rattle.asl_backward_flow.proofs.laws.the_needed_locks_are_the_least_closed_family.Goals as goal

pub returns : goal.returns
returns c = record {
  closed = λ l k stores k_limit. needed_closed l k stores k_limit;
  least = λ l k stores k_limit has closed r pc n needed. needed_least l k stores k_limit (λ s q m. IsTrue (has s q m)) closed r pc n needed;
}
