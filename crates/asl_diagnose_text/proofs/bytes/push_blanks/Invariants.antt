use Rattle.std.proofs.Common.{◌≡◌, ◌++◌, drop, map, string_bytes}
use Rattle.asl_diagnose_text.specs.Shown.{below}
use Rattle.asl_diagnose_text.proofs.bytes.push_blanks.Given as goal

abbrev pub invariant-loop-byte : goal.invariant-loop-byte
invariant-loop-byte l = string_bytes l.message ++ map below (drop l.byte-index l.bytes) ≡ string_bytes l.initial.message ++ map below l.bytes
