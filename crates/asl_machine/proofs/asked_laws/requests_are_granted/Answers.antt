use Rattle.asl_code.proofs.FitsLaws.{image_fits}
use Rattle.asl_machine.proofs.Granted.{granted_runs, refused_waits, request_nodes}
use Rattle.asl_machine.proofs.Reached.{reached_sound}
use Rattle.asl_machine.proofs.asked_laws.requests_are_granted.Goals as goal

pub returns : goal.returns
returns c = record {
  granted = granted_runs;
  blocked = refused_waits;
  there = λ image count s t request node v r e ne. request_nodes image s t request node (reached_sound image count s (image_fits image v) r) e ne;
}
