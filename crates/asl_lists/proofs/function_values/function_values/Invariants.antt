-- what is made so far
use Rattle.std.proofs.Common.{[], map}
use Rattle.serde_json.specs.View.{view}
use Rattle.asl_lists.specs.Document.{function_data}
use Rattle.asl_lists.proofs.Made.{Made}
use Rattle.asl_lists.proofs.function_values.function_values.Given as goal

abbrev pub invariant-loop-number : goal.invariant-loop-number
invariant-loop-number l = Made (function_data l.facts) l.functions l.number [] (map view l.values.items)
