-- what is listed and what is left are all
use Rattle.std.proofs.Common.{◌≡◌, ◌++◌, drop, map}
use Rattle.serde_json.specs.View.{view}
use Rattle.asl_lists.specs.Document.{op_data}
use Rattle.asl_lists.proofs.lock_values.op_values.Given as goal

abbrev pub invariant-loop-op : goal.invariant-loop-op
invariant-loop-op l = map view l.values.items ++ map op_data (drop l.op-index l.path) ≡ map op_data l.path
