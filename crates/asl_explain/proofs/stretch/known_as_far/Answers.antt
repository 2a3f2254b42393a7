use Rattle.asl_explain.specs.Chains.{Here}
use Rattle.asl_explain.proofs.stretch.known_as_far.Goals as goal

pub returns : goal.returns
returns c = λ x known. Here
