use Rattle.std.proofs.Common.{◌≡◌, map, replicate, []}
use Rattle.asl_backward_flow.proofs.graph.empty_rows.Given as goal

abbrev pub invariant-loop : goal.invariant-loop
invariant-loop l = map (λ r. r.items) l.rows.items ≡ replicate l.counter []
