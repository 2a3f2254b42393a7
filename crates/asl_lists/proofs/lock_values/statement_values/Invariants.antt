-- the statements so far
use Rattle.std.proofs.Common.{map}
use Rattle.serde_json.specs.View.{view}
use Rattle.asl_lists.specs.Document.{statement_data}
use Rattle.asl_lists.proofs.Made.{Flat}
use Rattle.asl_lists.proofs.lock_values.statement_values.Given as goal

abbrev pub invariant-loop-chain : goal.invariant-loop-chain
invariant-loop-chain l = Flat (statement_data l.facts) l.chains l.chain-index (map view l.values.items)
