use Rattle.std.proofs.Common.{◌≡◌, map, take}
use Rattle.asl_lock_forest.proofs.held_lists.same_lists.Given as goal

abbrev pub invariant-loop-own : goal.invariant-loop-own
invariant-loop-own l = map (λ v. v.items) l.copy.items ≡ map (λ v. v.items) (take l.own-index l.held)
