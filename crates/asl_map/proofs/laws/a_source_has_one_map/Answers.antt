use Rattle.std.proofs.Common.{◌∙◌, sym}
use Rattle.asl_map.proofs.OneMap.{one_text}
use Rattle.asl_map.proofs.laws.a_source_has_one_map.Goals as goal

pub returns : goal.returns
returns c = λ source text other p q. p.spelled ∙ one_text source p.is q.is p.mapped q.mapped ∙ sym q.spelled
