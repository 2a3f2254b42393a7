use Rattle.asl_map.proofs.NoRefusal.{no_refusal}
use Rattle.asl_map.proofs.laws.a_source_with_a_map_has_no_refusal.Goals as goal

pub returns : goal.returns
returns c = λ source text fault p r. no_refusal source p.is fault p.mapped r
