use Rattle.std.proofs.Common.{◌≡◌, take}
use Rattle.asl_explain.proofs.lists_by_length.same_list.Given as goal

abbrev pub invariant-loop-lock : goal.invariant-loop-lock
invariant-loop-lock l = l.copies.items ≡ take l.lock-index l.list
