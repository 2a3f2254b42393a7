use Rattle.std.proofs.Common.{take}
use Rattle.asl_code.specs.declared.instr.Instr.{Instr}
use Rattle.asl_code.specs.Spelling.{IsInstr}
use Rattle.asl_loader.specs.Bytes.{instr_fields}
use Rattle.asl_loader.specs.Writing.{WritesEach}
use Rattle.asl_loader.proofs.image_writing.put_instrs.Given as goal

abbrev pub invariant-loop-instr : goal.invariant-loop-instr
invariant-loop-instr l = WritesEach Instr IsInstr instr_fields l.initial.out.items l.out.items (take l.instr-index l.code)
