use Rattle.std.proofs.Common.{◌≡◌, map, length}
use Rattle.asl_backward_flow.specs.Graph.{HasRows, IsJump}
use Rattle.asl_backward_flow.proofs.graph.jumps.Given as goal

abbrev pub invariant-loop-pc : goal.invariant-loop-pc
invariant-loop-pc l = HasRows (map (λ r. r.items) l.rows.items) (IsJump l.lowering) l.pc × (length l.lowering.code ≡ length l.rows.items)
