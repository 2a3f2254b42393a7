use Rattle.std.proofs.Common.{string_bytes}
use Rattle.asl_explain.specs.Told.{lock_told}
use Rattle.asl_explain.specs.Telling.{given}
use Rattle.asl_explain.proofs.Piecing.{TellsFlat}
use Rattle.asl_explain.proofs.explained_text.push_locks.Given as goal

abbrev pub invariant-loop-place : goal.invariant-loop-place
invariant-loop-place l = TellsFlat (lock_told (given l.teller) l.section) l.listed l.place (string_bytes l.fn.text) (string_bytes l.text)
