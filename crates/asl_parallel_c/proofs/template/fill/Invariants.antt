use Rattle.std.proofs.Common.{◌≡◌, ◌++◌, drop}
use Rattle.asl_parallel_c.specs.Template.{filled}
use Rattle.asl_parallel_c.proofs.template.fill.Given as goal

-- what is written, and the rest of the template with the rest of the numbers, is the whole
abbrev pub invariant-loop-byte : goal.invariant-loop-byte
invariant-loop-byte g l = l.text.items ++ filled (drop l.byte-index l.template) l.rest ≡ l.fn.text.items ++ filled l.template l.fn.numbers
