-- what was added and what is left are the operations, and each took 22 bytes at most
use Rattle.std.proofs.Common.{◌≡◌, ◌+◌, ◌*◌, ◌≤◌, ◌++◌, drop, length}
use Rattle.asl_refusal_text.specs.FaultText.{path_text}
use Rattle.asl_refusal_text.proofs.lock_text.push_path.Given as goal

abbrev pub invariant-loop-op : goal.invariant-loop-op
invariant-loop-op l = record {
  text : l.line.items ++ path_text (drop l.op-index l.ops) ≡ l.initial.line.items ++ path_text l.ops;
  adds : length l.line.items ≤ length l.initial.line.items + 22 * l.op-index;
}
