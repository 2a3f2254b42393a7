use Rattle.std.proofs.Common.{take}
use Rattle.std.specs.Prelude.{List}
use Rattle.asl_code.specs.declared.lock.Lock.{Lock}
use Rattle.asl_assembler.specs.Writing.{WritesEach, FitsListLines, list_text}
use Rattle.asl_assembler.proofs.disassembly.put_lists.Given as goal

abbrev pub invariant-loop-list : goal.invariant-loop-list
invariant-loop-list l = WritesEach (List Lock) FitsListLines list_text l.initial.text.items l.text.items (take l.list-index l.lists)
