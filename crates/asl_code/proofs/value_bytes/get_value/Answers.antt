use Rattle.std.proofs.Common.{◌∙◌, sym, arith}
use Rattle.asl_code.proofs.Values.{is_found, short_begins, begins_short}
use Rattle.asl_code.proofs.value_bytes.get_value.Goals as goal

pub returns-clause-found : goal.returns-clause-found
returns-clause-found c = is_found c.args.bytes.now c.value_at.result (λ i. omega (arith, c.type_inv.bytes i)) c.value_at.ensures

pub returns-clause-short : goal.returns-clause-short
returns-clause-short c = (λ e. short_begins c.args.bytes.now (λ i. omega (arith, c.type_inv.bytes i)) (sym c.value_at.ensures ∙ e), λ b. c.value_at.ensures ∙ begins_short c.args.bytes.now b)
