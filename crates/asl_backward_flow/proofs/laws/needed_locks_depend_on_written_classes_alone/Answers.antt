use Rattle.asl_backward_flow.proofs.Alike.{tests_same, needed_same}
use Rattle.asl_backward_flow.proofs.laws.needed_locks_depend_on_written_classes_alone.Goals as goal

pub returns : goal.returns
returns c = λ l k stores others k_limit told tells r pc n needed. needed_same l k k_limit stores others (tests_same l k stores others told tells) r pc n needed
