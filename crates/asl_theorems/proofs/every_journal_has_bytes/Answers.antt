use Rattle.std.proofs.Common.{refl}
use Rattle.asl_theorems.proofs.Writing.{journal_bytes}
use Rattle.asl_theorems.proofs.every_journal_has_bytes.Goals as goal

pub returns : goal.returns
returns c = λ image bytes log spelled j short.
    record { fits = journal_bytes image log spelled.fits.code_fits.each j short; spelled = refl }
