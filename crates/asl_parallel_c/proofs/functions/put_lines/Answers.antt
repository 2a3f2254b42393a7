use Rattle.std.proofs.Common.{◌+◌, List, refl, arith}
use Rattle.asl_code.specs.declared.instr.Instr.{Instr}
use Rattle.asl_parallel_c.specs.Functions.{lines_from}
use Rattle.asl_parallel_c.proofs.Rows.{item_at, all_done}
use Rattle.asl_parallel_c.proofs.functions.put_lines.Goals as goal

pub loop-instr-init : goal.loop-instr-init
loop-instr-init g c = record { place = omega arith; written = refl }

pub loop-instr-preserved : goal.loop-instr-preserved
loop-instr-preserved g c = record {
  place = omega (arith, c.loop-instr.invariant.place);
  written = item_at (λ (l : List Instr). lines_from c.args.program.now c.args.options.now c.args.regs c.loop-instr.at l) (λ (l : List Instr). lines_from c.args.program.now c.args.options.now c.args.regs (c.loop-instr.at + 1) l)
      _ _ c.loop-instr.text.items c.put_line.new.text.items c.args.code.now c.loop-instr.instr-index _ c.loop-instr-test.true c.loop-instr.invariant.written c.in_ok-put_line.ensures.written refl;
}

pub returns-clause-written : goal.returns-clause-written
returns-clause-written g c = all_done (λ (l : List Instr). lines_from c.args.program.now c.args.options.now c.args.regs c.loop-instr.at l) (λ (l : List Instr). lines_from c.args.program.now c.args.options.now c.args.regs c.loop-instr.at l)
    _ c.loop-instr.text.items c.args.code.now c.loop-instr.instr-index c.loop-instr-test.false refl c.loop-instr.invariant.written
