use Rattle.std.proofs.Common.{◌≡◌, length}
use Rattle.asl_lower.specs.Lowered.{Lowered}
use Rattle.asl_points_to.specs.Classes.{Classed}
use Rattle.asl_explain.specs.Analysed.{AreEachFitted, AreFittedFrom}
use Rattle.asl_explain.proofs.lists_by_length.add_same.Given as goal

abbrev pub invariant-loop : goal.invariant-loop
invariant-loop l = record {
  count : length l.by_length.items ≡ l.counter;
  each : (lowered : Lowered) (c : Classed) → AreFittedFrom lowered c l.first l.lists → AreEachFitted lowered c l.fn.by_length.items → AreEachFitted lowered c l.by_length.items;
}
