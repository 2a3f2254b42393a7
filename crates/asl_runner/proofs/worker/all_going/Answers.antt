use Rattle.std.proofs.Common.{true, ap, ◌∙◌, replicate, Some}
use Rattle.std.proofs.lemmas.Option.{slice_get-get_or}
use Rattle.std.proofs.lemmas.List.{get_or-replicate}
use Rattle.asl_runner.proofs.worker.all_going.Goals as goal

pub returns-clause-each : goal.returns-clause-each
returns-clause-each c t lt = slice_get-get_or (replicate 128 true) t true lt ∙ ap Some (get_or-replicate 128 t true true lt)
