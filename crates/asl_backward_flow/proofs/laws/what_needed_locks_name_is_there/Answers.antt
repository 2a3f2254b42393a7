use Rattle.asl_backward_flow.proofs.Basing.{needed_of}
use Rattle.asl_backward_flow.proofs.laws.what_needed_locks_name_is_there.Goals as goal

pub returns : goal.returns
returns c = λ l k stores k_limit kept classes r pc n needed f q isin. needed_of l k stores k_limit kept classes r pc n needed f q isin
