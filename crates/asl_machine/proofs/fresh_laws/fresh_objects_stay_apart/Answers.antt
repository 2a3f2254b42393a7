use Rattle.asl_code.proofs.FitsLaws.{image_fits}
use Rattle.asl_machine.proofs.Apart.{step_apart}
use Rattle.asl_machine.proofs.ReachedApart.{reached_apart}
use Rattle.asl_machine.proofs.fresh_laws.fresh_objects_stay_apart.Goals as goal

pub returns : goal.returns
returns c = record {
  line = λ image s t reply new sound fr step. step_apart image s t reply new sound fr step;
  reached = λ image count s v r. reached_apart image count s (image_fits image v) r;
}
