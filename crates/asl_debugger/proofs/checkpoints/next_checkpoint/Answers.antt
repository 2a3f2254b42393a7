use Rattle.std.proofs.Common.{ap}
use Rattle.std.proofs.lemmas.Result.{err_from_is_err_and}
use Rattle.asl_machine.specs.View.{Configuration}
use Rattle.asl_debugger.proofs.Marks.{so_far_next}
use Rattle.asl_debugger.proofs.checkpoints.next_checkpoint.Goals as goal

pub machine_between-requires-clause-from : goal.machine_between-requires-clause-from
machine_between-requires-clause-from g c = ap (λ (m : Configuration). m.state) c.requires.so_far.at

pub returns-in_err-machine-clause-refused : goal.returns-in_err-machine-clause-refused
returns-in_err-machine-clause-refused g c =
    let so_far = c.requires.so_far in
    let p = err_from_is_err_and c.from_residual.result c.from_residual.ensures.1 in
    rw (p.1, p.2) (c.in_err-machine.ensures.refused c.requires.verified so_far.counted so_far.goes)

pub returns-in_err-put_checkpoint-clause-refused : goal.returns-in_err-put_checkpoint-clause-refused
returns-in_err-put_checkpoint-clause-refused g c =
    let p = err_from_is_err_and c.from_residual-in_err-put_checkpoint.result c.from_residual-in_err-put_checkpoint.ensures.1 in
    rw (p.1, p.2, c.in_err-put_checkpoint.ensures.memory) c.requires.so_far.counted.1

pub returns-clause-so_far : goal.returns-clause-so_far
returns-clause-so_far g c =
    let so_far = c.requires.so_far in
    let one = c.in_ok-put_checkpoint.ensures.put in
    let made = c.in_ok-machine.ensures in
    rw one.items (so_far_next c.args.from.image c.args.journal.now c.args.spacing c.args.here c.args.from c.in_ok-machine.machine c.args.checkpoints.now.items one.rest so_far made.machine one.fits one.state c.requires.room (made.goes so_far.goes))
