use Rattle.std.proofs.Common.{◌≡◌, take}
use Rattle.asl_explain.proofs.lists_by_length.same_lists.Given as goal

abbrev pub invariant-loop-list : goal.invariant-loop-list
invariant-loop-list l = l.copies.items ≡ take l.list-index l.lists
