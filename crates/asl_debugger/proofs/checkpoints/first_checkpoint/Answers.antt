use Rattle.std.proofs.lemmas.Result.{err_from_is_err_and}
use Rattle.asl_debugger.proofs.Marks.{so_far_start}
use Rattle.asl_debugger.proofs.checkpoints.first_checkpoint.Goals as goal

pub returns-clause-so_far : goal.returns-clause-so_far
returns-clause-so_far g c =
    let one = c.in_ok-put_checkpoint.ensures.put in
    let first = c.in_ok-machine.ensures in
    rw (one.items, c.requires.empty) (λ spacing. so_far_start c.args.program.now c.args.journal.now spacing c.in_ok-machine.machine one.rest first.counted first.machine one.fits one.state)

pub returns-in_err-put_checkpoint-clause-refused : goal.returns-in_err-put_checkpoint-clause-refused
returns-in_err-put_checkpoint-clause-refused g c =
    let p = err_from_is_err_and c.from_residual-in_err-put_checkpoint.result c.from_residual-in_err-put_checkpoint.ensures.1 in
    rw (p.1, p.2, c.in_err-put_checkpoint.ensures.memory) c.in_ok-machine.ensures.counted.1
