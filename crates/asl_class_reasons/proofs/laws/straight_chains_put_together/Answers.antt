use Rattle.asl_class_reasons.proofs.StraightChains.{straight_shares}
use Rattle.asl_class_reasons.proofs.laws.straight_chains_put_together.Goals as goal

pub returns : goal.returns
returns c = λ l es r m n low chain t d h. straight_shares l es r m n low chain t d h
