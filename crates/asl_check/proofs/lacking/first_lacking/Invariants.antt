use Rattle.std.proofs.Common.{◌≡◌, Some, slice_get}
use Rattle.asl_backward_flow.specs.Needed.{RegionNeeds}
use Rattle.asl_check.specs.KnownLists.{AreJudged}
use Rattle.asl_check.proofs.lacking.first_lacking.Given as goal

abbrev pub invariant-loop-number : goal.invariant-loop-number
invariant-loop-number l = (p : RegionNeeds) → slice_get l.flow l.place ≡ Some p → AreJudged l.classes l.function l.list p l.pc l.number l.first
