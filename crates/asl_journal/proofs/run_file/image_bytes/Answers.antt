use Rattle.asl_journal.proofs.Lengths.{short_bytes}
use Rattle.asl_journal.proofs.run_file.image_bytes.Goals as goal

pub returns-clause-short : goal.returns-clause-short
returns-clause-short c = short_bytes (λ v. v.items) c.args.program.now c.store.result c.image-verified.ensures.verified c.store.ensures
