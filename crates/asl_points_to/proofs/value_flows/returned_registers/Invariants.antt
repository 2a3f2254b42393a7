-- the functions so far
use Rattle.std.proofs.Common.{◌≡◌, ◌<◌, ℕ, Some, length, slice_get}
use Rattle.asl_lower.specs.OpenSections.{start_of, returned}
use Rattle.asl_points_to.proofs.value_flows.returned_registers.Given as goal

abbrev pub invariant-loop-function : goal.invariant-loop-function
invariant-loop-function l = record {
  end : l.end ≡ start_of l.lowering.functions l.function-index;
  len : length l.registers.items ≡ l.function-index;
  registers : (g : ℕ) → g < l.function-index → slice_get l.registers.items g ≡ Some (returned l.lowering g);
}
