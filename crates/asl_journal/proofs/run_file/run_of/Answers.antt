use Rattle.std.proofs.lemmas.Result.{err_from_is_err_and}
use Rattle.asl_journal.proofs.RunFiles.{log_fault}
use Rattle.asl_journal.proofs.run_file.run_of.Goals as goal

pub returns-in_err-journal-clause-refused : goal.returns-in_err-journal-clause-refused
returns-in_err-journal-clause-refused c =
    let p = err_from_is_err_and c.from_residual-in_err-journal.result c.from_residual-in_err-journal.ensures.1 in
    rw (p.1, p.2) (log_fault c.args.bytes.now c.args.image.now c.args.events.now c.in_ok-program.program c.in_err-journal.field-0.0 c.requires
    c.in_ok-program.ensures.ok c.in_err-journal.ensures.err)
