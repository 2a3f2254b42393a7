use Rattle.asl_points_to.proofs.Finest.{least_finest}
use Rattle.asl_points_to.proofs.laws.least_classes_are_finest.Goals as goal

pub returns : goal.returns
returns c = λ l a h. least_finest l a h
