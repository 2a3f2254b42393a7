use Rattle.std.proofs.Common.{◌≡◌, ◌++◌, drop, map, string_bytes}
use Rattle.asl_diagnose_text.specs.Shown.{shown}
use Rattle.asl_diagnose_text.proofs.bytes.push_bytes.Given as goal

abbrev pub invariant-loop-byte : goal.invariant-loop-byte
invariant-loop-byte l = string_bytes l.message ++ map shown (drop l.byte-index l.bytes) ≡ string_bytes l.initial.message ++ map shown l.bytes
