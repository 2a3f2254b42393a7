use Rattle.asl_soundness.proofs.StructureLaws.{kept_structured}
use Rattle.asl_soundness.proofs.structure_laws.states_agree_with_classes.Goals as goal

pub returns : goal.returns
returns c = λ l d image count s kept made r. (kept_structured l d image count s kept made r).agrees
