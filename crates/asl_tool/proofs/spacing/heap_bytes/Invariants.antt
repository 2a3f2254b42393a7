use Rattle.std.proofs.Common.{◌≡◌, ◌≤◌, ◌+◌, ◌*◌, drop}
use Rattle.asl_tool.specs.Spacing.{heap_bytes}
use Rattle.asl_tool.proofs.spacing.heap_bytes.Given as goal

abbrev pub invariant-loop-object : goal.invariant-loop-object
invariant-loop-object l = record {
  so_far : l.bytes + heap_bytes (drop l.object l.machine.state.objects) ≡ heap_bytes l.machine.state.objects;
  few : l.bytes ≤ l.object * 2088;
}
