use Rattle.std.proofs.Common.{take}
use Rattle.asl_code.specs.declared.instr.Instr.{Instr}
use Rattle.asl_assembler.specs.Writing.{WritesEach, FitsInstrLine, instr_text}
use Rattle.asl_assembler.proofs.disassembly.put_code.Given as goal

abbrev pub invariant-loop-instr : goal.invariant-loop-instr
invariant-loop-instr l = WritesEach Instr FitsInstrLine instr_text l.initial.text.items l.text.items (take l.instr-index l.code)
