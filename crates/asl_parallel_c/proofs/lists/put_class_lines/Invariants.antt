use Rattle.std.proofs.Common.{◌≡◌, ◌++◌, drop}
use Rattle.asl_parallel_c.specs.Lists.{class_lines}
use Rattle.asl_parallel_c.proofs.lists.put_class_lines.Given as goal

abbrev pub invariant-loop-class : goal.invariant-loop-class
invariant-loop-class g l = l.text.items ++ class_lines (drop l.class-index l.classes) ≡ l.fn.text.items ++ class_lines l.classes
