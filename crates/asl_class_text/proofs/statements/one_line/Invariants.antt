use Rattle.std.proofs.Common.{string_bytes}
use Rattle.asl_class_text.proofs.Lined.{OneLine}
use Rattle.asl_class_text.proofs.statements.one_line.Given as goal

abbrev pub invariant-loop-byte : goal.invariant-loop-byte
invariant-loop-byte l = OneLine l.bytes l.was_blank l.byte-index (string_bytes l.text)
