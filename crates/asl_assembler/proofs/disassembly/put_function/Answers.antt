use Rattle.std.proofs.lemmas.Result.{on_ok_weaker}
use Rattle.asl_code.specs.declared.instr.Instr.{Instr}
use Rattle.asl_assembler.specs.declared.line.Line.TheVariants as line
use Rattle.asl_assembler.specs.Text.{Body, function_lines}
use Rattle.asl_assembler.proofs.Prints.{line_then, lines_mapped, as_one}
use Rattle.asl_assembler.proofs.disassembly.put_function.Goals as goal

pub returns : goal.returns
returns c =
    let f = c.args.function.now in
    let old = c.args.text.now.items in
    let mid = c.put_signature.new.text.items in
    let new = c.put_code.new.text.items in
    on_ok_weaker c.put_code.result
    (λ w. as_one Body function_lines old new (record { params = f.params; regs = f.regs; code = c.args.code.now })
    (line_then old mid new (line.Function f.params f.regs) _ c.in_ok-put_signature.ensures (lines_mapped Instr line.Instruction mid new c.args.code.now w)))
    c.put_code.ensures
