use Rattle.std.proofs.Common.{◌≡◌, ◌+◌, ◌-◌, ◌++◌}
use Rattle.asl_parallel_c.specs.Functions.{locals_from}
use Rattle.asl_parallel_c.proofs.head.put_locals.Given as goal

-- what is written, and the locals that are left, are the whole
abbrev pub invariant-loop-register : goal.invariant-loop-register
invariant-loop-register g l =
    l.text.items ++ locals_from l.options l.number l.template l.register (l.first + l.count - l.register) ≡ l.fn.text.items ++ locals_from l.options l.number l.template l.first l.count
