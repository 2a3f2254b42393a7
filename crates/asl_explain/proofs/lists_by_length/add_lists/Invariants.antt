use Rattle.std.proofs.Common.{◌≡◌, length}
use Rattle.asl_explain.specs.Analysed.{AreEachFitted}
use Rattle.asl_explain.proofs.lists_by_length.add_lists.Given as goal

abbrev pub invariant-loop-k_limit : goal.invariant-loop-k_limit
invariant-loop-k_limit l = record {
  count : length l.by_length.items ≡ l.k_limit;
  each : AreEachFitted l.analysis.lowering l.analysis.classes l.by_length.items;
}
