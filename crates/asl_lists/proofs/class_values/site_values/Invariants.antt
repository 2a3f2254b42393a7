-- what is made so far
use Rattle.std.proofs.Common.{[], map}
use Rattle.serde_json.specs.View.{view}
use Rattle.asl_lists.specs.Document.{site_data}
use Rattle.asl_lists.proofs.Made.{Made}
use Rattle.asl_lists.proofs.class_values.site_values.Given as goal

abbrev pub invariant-loop-number : goal.invariant-loop-number
invariant-loop-number l = Made (site_data l.facts l.class) l.classes l.number [] (map view l.values.items)
