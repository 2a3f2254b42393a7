use Rattle.asl_code.specs.declared.instr.Instr.{Instr}
use Rattle.asl_assembler.specs.Writing.{FitsInstrLine, instr_text}
use Rattle.asl_assembler.specs.declared.line.Line.TheVariants as line
use Rattle.asl_assembler.proofs.Prints.{as_line}
use Rattle.asl_assembler.proofs.Writes.{none_written, more_at, all_written}
use Rattle.asl_assembler.proofs.disassembly.put_code.Goals as goal

pub loop-instr-init : goal.loop-instr-init
loop-instr-init c = none_written Instr FitsInstrLine instr_text c.args.text.now.items

pub loop-instr-preserved : goal.loop-instr-preserved
loop-instr-preserved c = more_at Instr FitsInstrLine instr_text c.args.text.now.items c.loop-instr.text.items c.put_instr.new.text.items c.args.code.now c.loop-instr.instr-index _ c.loop-instr-test.true c.loop-instr.invariant (as_line Instr line.Instruction c.loop-instr.text.items c.put_instr.new.text.items _ c.in_ok-put_instr.ensures)

pub returns : goal.returns
returns c = all_written Instr FitsInstrLine instr_text c.args.text.now.items c.loop-instr.text.items c.args.code.now c.loop-instr.instr-index c.loop-instr-test.false c.loop-instr.invariant
