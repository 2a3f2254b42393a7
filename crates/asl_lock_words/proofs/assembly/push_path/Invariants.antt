-- the words of the operations so far
use Rattle.std.proofs.Common.{string_bytes}
use Rattle.asl_lock_words.specs.Assembly.{op_word}
use Rattle.asl_lock_words.proofs.Joining.{Joined}
use Rattle.asl_lock_words.proofs.assembly.push_path.Given as goal

abbrev pub invariant-loop-op : goal.invariant-loop-op
invariant-loop-op l = Joined op_word l.path l.op-index (string_bytes l.initial.text) (string_bytes l.text)
