use Rattle.std.proofs.Common.{◌≡◌, ◌++◌, drop}
use Rattle.asl_parallel_c.specs.Lists.{lists_from}
use Rattle.asl_parallel_c.proofs.lists.put_lists.Given as goal

abbrev pub invariant-loop-number : goal.invariant-loop-number
invariant-loop-number g l = l.text.items ++ lists_from l.number (drop l.number l.lists) ≡ l.fn.text.items ++ lists_from 0 l.lists
