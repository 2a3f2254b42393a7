use Rattle.asl_code.specs.declared.instr.Instr.{Instr}
use Rattle.asl_loader.specs.SharedFields.{IsKept}
use Rattle.asl_loader.specs.ImageFields.{items_at, instr_at}
use Rattle.asl_loader.proofs.Loop.{Kept}
use Rattle.asl_loader.proofs.code_fields.code_of.Given as goal

abbrev pub invariant-loop : goal.invariant-loop
invariant-loop l = Kept Instr instr_at (IsKept l.code) l.count l.counter l.rest (items_at instr_at l.count l.bytes)
