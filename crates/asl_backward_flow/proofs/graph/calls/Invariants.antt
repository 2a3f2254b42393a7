use Rattle.std.proofs.Common.{◌≡◌, map, length}
use Rattle.asl_backward_flow.specs.Graph.{HasRows, IsCall}
use Rattle.asl_backward_flow.proofs.graph.calls.Given as goal

abbrev pub invariant-loop-pc : goal.invariant-loop-pc
invariant-loop-pc l = HasRows (map (λ r. r.items) l.rows.items) (IsCall l.lowering) l.pc × (length l.lowering.functions ≡ length l.rows.items)
