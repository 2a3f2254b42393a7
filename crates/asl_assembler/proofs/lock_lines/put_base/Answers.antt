use Rattle.std.proofs.lemmas.Result.{on_ok_weaker}
use Rattle.asl_assembler.proofs.lock_lines.put_base.Goals as goal

pub returns : goal.returns
returns c = on_ok_weaker c.add_to.result (λ w. record { fits = c.base_word-word.ensures.fits; added = rw c.base_word-word.ensures.written at w }) c.add_to.ensures
