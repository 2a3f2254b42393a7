use Rattle.std.proofs.Common.{arith}
use Rattle.std.proofs.lemmas.Result.{on_ok_weaker}
use Rattle.asl_assembler.proofs.lock_lines.put_class.Goals as goal

pub returns : goal.returns
returns c = on_ok_weaker c.add_to.result (λ w. record { fits = record { fields = (tt, (omega arith, (tt, tt))); kept = tt }; added = rw c.class_line-line.ensures at w }) c.add_to.ensures
