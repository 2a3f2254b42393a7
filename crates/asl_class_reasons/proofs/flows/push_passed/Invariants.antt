-- the arguments so far
use Rattle.std.proofs.Common.{◌≡◌, ◌++◌}
use Rattle.asl_class_reasons.specs.Draft.{passed}
use Rattle.asl_class_reasons.proofs.flows.push_passed.Given as goal

abbrev pub invariant-loop-n : goal.invariant-loop-n
invariant-loop-n l = l.owed.items ≡ l.initial.owed.items ++ passed l.pc l.function l.first l.callee l.n
