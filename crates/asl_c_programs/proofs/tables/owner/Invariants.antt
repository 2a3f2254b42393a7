-- the bodies that were passed
use Rattle.std.proofs.Common.{◌≡◌, ◌≤◌}
use Rattle.asl_code.specs.Bodies.{first_of}
use Rattle.asl_c_programs.proofs.tables.owner.Given as goal

abbrev pub invariant-loop-function : goal.invariant-loop-function
invariant-loop-function l = record {
  number : l.number ≡ l.function-index;
  end : l.end ≡ first_of l.function-items l.function-index;
  passed : l.end ≤ l.place;
}
