use Rattle.asl_backward_flow.specs.Needed.{Needed}
use Rattle.asl_soundness.proofs.Soundness.{sound_program}
use Rattle.asl_soundness.proofs.NeededLaws.{needed_analysed}
use Rattle.asl_soundness.proofs.laws.never_unprotected.Goals as goal

pub returns : goal.returns
returns c = λ l d stores k_limit image kept made told lists.
    sound_program l d stores k_limit (Needed l d stores k_limit) image (needed_analysed l d stores k_limit image kept made told lists)
