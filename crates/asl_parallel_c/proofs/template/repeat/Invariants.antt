use Rattle.std.proofs.Common.{◌≡◌, ◌+◌, ◌-◌, ◌++◌}
use Rattle.asl_parallel_c.specs.Template.{repeated}
use Rattle.asl_parallel_c.proofs.template.repeat.Given as goal

-- what is written, and what is left to be repeated, is the whole
abbrev pub invariant-loop-number : goal.invariant-loop-number
invariant-loop-number g l = l.text.items ++ repeated l.template l.number (l.first + l.count - l.number) ≡ l.fn.text.items ++ repeated l.template l.first l.count
