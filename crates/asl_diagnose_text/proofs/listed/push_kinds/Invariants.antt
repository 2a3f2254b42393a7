use Rattle.std.proofs.Common.{◌≡◌, ◌++◌, drop, string_bytes}
use Rattle.asl_diagnose_text.specs.Listed.{kinds_text}
use Rattle.asl_diagnose_text.proofs.listed.push_kinds.Given as goal

abbrev pub invariant-loop-kind : goal.invariant-loop-kind
invariant-loop-kind l = string_bytes l.message ++ kinds_text (drop l.kind-index l.kinds) ≡ string_bytes l.initial.message ++ kinds_text l.kinds
