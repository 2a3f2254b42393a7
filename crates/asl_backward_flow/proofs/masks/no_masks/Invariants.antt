use Rattle.std.proofs.Common.{◌≡◌, map, replicate, []}
use Rattle.asl_backward_flow.proofs.masks.no_masks.Given as goal

abbrev pub invariant-loop : goal.invariant-loop
invariant-loop l = map (λ v. v.list.items) l.all.items ≡ replicate l.counter []
