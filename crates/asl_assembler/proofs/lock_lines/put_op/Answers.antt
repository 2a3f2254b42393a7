use Rattle.std.proofs.lemmas.Result.{on_ok_weaker}
use Rattle.asl_assembler.proofs.lock_lines.put_op.Goals as goal

pub returns : goal.returns
returns c = on_ok_weaker c.add_to.result (λ w. record { fits = c.op_word-word.ensures.fits; added = rw c.op_word-word.ensures.written at w }) c.add_to.ensures
