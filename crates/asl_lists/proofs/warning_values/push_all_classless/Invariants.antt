-- what is made so far
use Rattle.std.proofs.Common.{map}
use Rattle.serde_json.specs.View.{view}
use Rattle.asl_lists.specs.Document.{classless_data}
use Rattle.asl_lists.proofs.Made.{Made}
use Rattle.asl_lists.proofs.warning_values.push_all_classless.Given as goal

abbrev pub invariant-loop-pc : goal.invariant-loop-pc
invariant-loop-pc l = Made (classless_data l.facts) l.code l.pc (map view l.initial.values.items) (map view l.values.items)
