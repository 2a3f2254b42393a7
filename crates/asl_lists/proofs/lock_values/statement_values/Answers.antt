use Rattle.std.proofs.Common.{map, ap, arith}
use Rattle.serde_json.specs.View.{view}
use Rattle.asl_lists.proofs.Made.{none_flat, more_flat, all_flat}
use Rattle.asl_lists.proofs.lock_values.statement_values.Goals as goal

pub loop-chain-init : goal.loop-chain-init
loop-chain-init c = none_flat _ _ _ (ap (map view) c.new-values.ensures.items)

pub loop-chain-preserved : goal.loop-chain-preserved
loop-chain-preserved c = more_flat _ _ _ c.chain-item.result c.chain-item.result _ _ (omega arith) c.chain-item.is c.in_ok-push_statement.ensures c.loop-chain.invariant

pub returns : goal.returns
returns c = all_flat _ _ _ _ (omega arith) c.loop-chain.invariant
