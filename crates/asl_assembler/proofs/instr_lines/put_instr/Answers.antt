use Rattle.std.proofs.lemmas.Result.{on_ok_weaker}
use Rattle.asl_assembler.proofs.instr_lines.put_instr.Goals as goal

pub returns : goal.returns
returns c = on_ok_weaker c.add_to.result (λ w. record { fits = c.instr_line.ensures.fits; added = rw c.instr_line.ensures.written at w }) c.add_to.ensures
