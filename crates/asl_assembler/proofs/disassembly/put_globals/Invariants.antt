use Rattle.std.proofs.Common.{take}
use Rattle.std.specs.Prelude.{ℕ}
use Rattle.asl_assembler.specs.Writing.{WritesEach, FitsGlobalLine, global_text}
use Rattle.asl_assembler.proofs.disassembly.put_globals.Given as goal

abbrev pub invariant-loop-class : goal.invariant-loop-class
invariant-loop-class l = WritesEach ℕ FitsGlobalLine global_text l.initial.text.items l.text.items (take l.class-index l.classes)
