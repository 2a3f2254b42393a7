-- what is made so far
use Rattle.std.proofs.Common.{map}
use Rattle.serde_json.specs.View.{view}
use Rattle.asl_lists.specs.Document.{unreached_data}
use Rattle.asl_lists.proofs.Made.{Made}
use Rattle.asl_lists.proofs.warning_values.push_all_unreached.Given as goal

abbrev pub invariant-loop-number : goal.invariant-loop-number
invariant-loop-number l = Made (unreached_data l.facts) l.functions l.number (map view l.initial.values.items) (map view l.values.items)
