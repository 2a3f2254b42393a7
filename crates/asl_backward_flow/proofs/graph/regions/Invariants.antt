use Rattle.std.proofs.Common.{◌≡◌, map, length}
use Rattle.asl_backward_flow.specs.Graph.{HasRows, HasCall}
use Rattle.asl_backward_flow.proofs.graph.regions.Given as goal

abbrev pub invariant-loop-part : goal.invariant-loop-part
invariant-loop-part l = HasRows (map (λ r. r.items) l.rows.items) (HasCall l.lowering l.spans) l.part × (length l.lowering.code ≡ length l.rows.items)
