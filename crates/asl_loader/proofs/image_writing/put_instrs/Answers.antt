use Rattle.asl_code.specs.declared.instr.Instr.{Instr}
use Rattle.asl_code.specs.Spelling.{IsInstr}
use Rattle.asl_loader.specs.Bytes.{instr_fields}
use Rattle.asl_loader.proofs.Writes.{none_written, more_at, all_written}
use Rattle.asl_loader.proofs.image_writing.put_instrs.Goals as goal

pub loop-instr-init : goal.loop-instr-init
loop-instr-init c = none_written Instr IsInstr instr_fields c.args.out.now.items

pub loop-instr-preserved : goal.loop-instr-preserved
loop-instr-preserved c = more_at Instr IsInstr instr_fields c.args.out.now.items c.loop-instr.out.items c.put_one_instr.new.out.items c.args.code.now c.loop-instr.instr-index _ c.loop-instr-test.true c.loop-instr.invariant c.in_ok-put_one_instr.ensures

pub returns : goal.returns
returns c = all_written Instr IsInstr instr_fields c.args.out.now.items c.loop-instr.out.items c.args.code.now c.loop-instr.instr-index c.loop-instr-test.false c.loop-instr.invariant
