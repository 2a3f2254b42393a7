use Rattle.std.proofs.Common.{◌≡◌, take}
use Rattle.asl_explain.proofs.text.lists.is_same_list.Given as goal

abbrev pub invariant-loop-number : goal.invariant-loop-number
invariant-loop-number l = take l.number l.list ≡ take l.number l.other
