use Rattle.asl_class_reasons.proofs.Sound.{chain_shares}
use Rattle.asl_class_reasons.proofs.laws.chains_put_together.Goals as goal

pub returns : goal.returns
returns c = λ l es r m n low j d h. chain_shares l es d r h m n low j
