use Rattle.std.specs.Prelude.{ℕ}
use Rattle.asl_assembler.specs.Writing.{FitsGlobalLine, global_text}
use Rattle.asl_assembler.proofs.Writes.{none_written, more_at, all_written}
use Rattle.asl_assembler.proofs.disassembly.put_globals.Goals as goal

pub loop-class-init : goal.loop-class-init
loop-class-init c = none_written ℕ FitsGlobalLine global_text c.args.text.now.items

pub loop-class-preserved : goal.loop-class-preserved
loop-class-preserved c = more_at ℕ FitsGlobalLine global_text c.args.text.now.items c.loop-class.text.items c.put_global.new.text.items c.args.classes.now c.loop-class.class-index _ c.loop-class-test.true c.loop-class.invariant c.in_ok-put_global.ensures

pub returns : goal.returns
returns c = all_written ℕ FitsGlobalLine global_text c.args.text.now.items c.loop-class.text.items c.args.classes.now c.loop-class.class-index c.loop-class-test.false c.loop-class.invariant
