use Rattle.asl_soundness.proofs.StructureLaws.{kept_structured, access_in_section}
use Rattle.asl_soundness.proofs.structure_laws.accesses_are_in_sections.Goals as goal

pub returns : goal.returns
returns c = λ l d image count s t a i kept made r. access_in_section l d image s t a i kept made (kept_structured l d image count s kept made r)
