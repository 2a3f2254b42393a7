use Rattle.asl_points_to.proofs.CountedClasses.{number_used, member_below, register_below, cell_below}
use Rattle.asl_points_to.proofs.laws.classes_are_there.Goals as goal

pub returns : goal.returns
returns c = record {
  used = λ l a h. number_used l a h;
  members = λ l a h. member_below l a h;
  registers = λ l a h. register_below l a h;
  cells = λ l a h. cell_below l a h;
}
