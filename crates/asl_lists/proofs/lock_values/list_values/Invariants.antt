-- what is listed and what is left are all
use Rattle.std.proofs.Common.{◌≡◌, ◌++◌, drop, map}
use Rattle.serde_json.specs.View.{view}
use Rattle.asl_lists.specs.Document.{lock_data}
use Rattle.asl_lists.proofs.lock_values.list_values.Given as goal

abbrev pub invariant-loop-listed : goal.invariant-loop-listed
invariant-loop-listed l = map view l.values.items ++ map (lock_data l.facts l.function) (drop l.listed-index l.list) ≡ map (lock_data l.facts l.function) l.list
