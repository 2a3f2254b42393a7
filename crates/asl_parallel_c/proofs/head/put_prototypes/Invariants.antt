use Rattle.std.proofs.Common.{◌≡◌, ◌++◌, drop}
use Rattle.asl_parallel_c.specs.Functions.{prototypes_from}
use Rattle.asl_parallel_c.proofs.head.put_prototypes.Given as goal

abbrev pub invariant-loop-number : goal.invariant-loop-number
invariant-loop-number g l = l.text.items ++ prototypes_from l.options l.number (drop l.number l.functions) ≡ l.fn.text.items ++ prototypes_from l.options 0 l.functions
