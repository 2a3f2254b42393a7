-- what is listed and what is left are all
use Rattle.std.proofs.Common.{◌≡◌, ◌++◌, drop, map}
use Rattle.serde_json.specs.View.{view}
use Rattle.asl_lists.specs.Document.{need_data}
use Rattle.asl_lists.proofs.lock_values.need_values.Given as goal

abbrev pub invariant-loop-need : goal.invariant-loop-need
invariant-loop-need l = map view l.values.items ++ map (need_data l.facts l.function) (drop l.need-index l.needs) ≡ map (need_data l.facts l.function) l.needs
