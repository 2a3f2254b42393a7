use Rattle.asl_code.specs.declared.image.Function.{Function}
use Rattle.asl_loader.specs.SharedFields.{IsKept}
use Rattle.asl_loader.specs.ImageFields.{items_at, function_at}
use Rattle.asl_loader.proofs.Loop.{Kept}
use Rattle.asl_loader.proofs.code_fields.functions_of.Given as goal

abbrev pub invariant-loop : goal.invariant-loop
invariant-loop l = Kept Function function_at (IsKept l.functions) l.count l.counter l.rest (items_at function_at l.count l.bytes)
