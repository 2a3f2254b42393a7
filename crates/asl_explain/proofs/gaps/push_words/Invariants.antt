use Rattle.std.proofs.Common.{string_bytes}
use Rattle.asl_explain.proofs.Blanks.{WordsSoFar}
use Rattle.asl_explain.proofs.gaps.push_words.Given as goal

abbrev pub invariant-loop-byte : goal.invariant-loop-byte
invariant-loop-byte l = WordsSoFar l.bytes l.is_behind_blank l.was_blank l.byte-index (string_bytes l.initial.text) (string_bytes l.text)
