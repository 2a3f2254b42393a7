use Rattle.std.proofs.Common.{ℕ}
use Rattle.std.specs.Int.{w16}
use Rattle.asl_loader.specs.SharedFields.{IsKept, number_at}
use Rattle.asl_loader.specs.ImageFields.{items_at}
use Rattle.asl_loader.proofs.Loop.{Kept}
use Rattle.asl_loader.proofs.code_fields.classes_of.Given as goal

abbrev pub invariant-loop : goal.invariant-loop
invariant-loop l = Kept ℕ (number_at w16) (IsKept l.classes) l.count l.counter l.rest (items_at (number_at w16) l.count l.bytes)
