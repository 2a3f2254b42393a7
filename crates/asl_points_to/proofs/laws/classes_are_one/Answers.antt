use Rattle.asl_points_to.proofs.Uniques.{one_classed}
use Rattle.asl_points_to.proofs.laws.classes_are_one.Goals as goal

pub returns : goal.returns
returns c = λ l a b h k. one_classed l a b h k
