use Rattle.asl_machine.proofs.LeastRequests.{request_is_least}
use Rattle.asl_machine.proofs.RequestEntries.{request_names_once, request_asks_modes, request_asks_parents}
use Rattle.asl_machine.proofs.laws.requests_are_least.Goals as goal

pub returns : goal.returns
returns c = record { least = request_is_least; once = request_names_once; modes = request_asks_modes; parents = request_asks_parents }
