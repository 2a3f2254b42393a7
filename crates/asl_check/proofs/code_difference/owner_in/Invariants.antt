-- the bodies that were passed
use Rattle.std.proofs.Common.{◌≡◌, ◌+◌, drop}
use Rattle.asl_lower.specs.OpenSections.{owner_of}
use Rattle.asl_check.proofs.code_difference.owner_in.Given as goal

abbrev pub invariant-loop-function : goal.invariant-loop-function
invariant-loop-function l = record {
  number : l.number ≡ l.function-index;
  owner : l.number + owner_of (drop l.function-index l.functions) l.left ≡ owner_of l.functions l.pc;
}
