-- A debugger that has done its call, and then lets go of the program that was lent to it.
use Rattle.std.proofs.Common.{◌≡◌, ap, ◌∙◌}
use Rattle.std.specs.Prelude.{Result, Ok, Err, IfOk, OnErr}
use Rattle.asl_code.specs.declared.image.Image.{Image}
use Rattle.asl_debugger.specs.Session.{Session}

-- its program stays, whatever the call answers
pub program_stays : {R E : Type 0} (a : Result R E) (program : Image) (old new : Session) (P : R → Type 0) → old.image ≡ program → ((r : R) → P r → new.image ≡ old.image) → IfOk a P → OnErr a (new ≡ old) → new.image ≡ program
program_stays (Ok r) program old new P was made ok err = made r ok ∙ was
program_stays (Err fault) program old new P was made ok err = ap (λ (s : Session). s.image) err ∙ was
