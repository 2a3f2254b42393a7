-- what is left moves the pointer to the end
use Rattle.std.proofs.Common.{◌≡◌, drop}
use Rattle.asl_lock_words.specs.Words.{pointer_of, after_ops}
use Rattle.asl_lock_words.proofs.source_words.after_ops.Given as goal

abbrev pub invariant-loop-op : goal.invariant-loop-op
invariant-loop-op l = after_ops (pointer_of l.pointer) (drop l.op-index l.ops) ≡ after_ops (pointer_of l.fn.start) l.ops
