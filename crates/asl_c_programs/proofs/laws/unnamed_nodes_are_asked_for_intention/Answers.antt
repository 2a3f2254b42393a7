use Rattle.asl_c_programs.proofs.Intention.{class_asks, root_asks, together}
use Rattle.asl_c_programs.proofs.laws.unnamed_nodes_are_asked_for_intention.Goals as goal

pub returns : goal.returns
returns c = record {
  class = λ i class no. class_asks i class c.requests_are_least.ensures.least no;
  root = λ i no. root_asks i c.requests_are_least.ensures.least no;
  together = together;
}
