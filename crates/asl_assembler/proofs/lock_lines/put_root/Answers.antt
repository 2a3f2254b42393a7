use Rattle.std.proofs.lemmas.Result.{on_ok_weaker}
use Rattle.asl_assembler.proofs.lock_lines.put_root.Goals as goal

pub returns : goal.returns
returns c = on_ok_weaker c.add_to.result (λ w. record { fits = record { fields = (tt, (tt, tt)); kept = tt }; added = rw c.root_line-line.ensures at w }) c.add_to.ensures
