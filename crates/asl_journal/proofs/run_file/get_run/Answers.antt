use Rattle.std.proofs.Common.{arith}
use Rattle.asl_journal.proofs.RunFiles.{only_run}
use Rattle.asl_journal.proofs.run_file.get_run.Goals as goal

pub returns-in-Some-clause-only : goal.returns-in-Some-clause-only
returns-in-Some-clause-only c =
    only_run c.args.bytes.now c.run_of.result (λ i. omega (arith, c.type_inv.bytes i)) c.run_of.ensures.found c.run_of.ensures.refused
