use Rattle.std.proofs.Common.{arith}
use Rattle.std.proofs.lemmas.Result.{on_ok_weaker}
use Rattle.asl_assembler.proofs.disassembly.put_signature.Goals as goal

pub returns : goal.returns
returns c = on_ok_weaker c.add_to.result (λ w. record { fits = record { fields = (tt, (omega arith, (omega arith, tt))); kept = tt }; added = rw c.signature_line-line.ensures at w }) c.add_to.ensures
