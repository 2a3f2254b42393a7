use Rattle.asl_backward_flow.specs.Needed.{Needed}
use Rattle.asl_soundness.proofs.Soundness.{reached_good}
use Rattle.asl_soundness.proofs.NeededLaws.{needed_analysed}
use Rattle.asl_soundness.proofs.laws.needed_locks_are_protected.Goals as goal

pub returns : goal.returns
returns c = λ l d stores k_limit image count s t a kept made told lists r is.
    ((reached_good l d stores k_limit (Needed l d stores k_limit) image (needed_analysed l d stores k_limit image kept made told lists) count s r).has t a is).top
