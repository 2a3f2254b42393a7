use Rattle.std.proofs.Common.{refl, subst, sym, ap, arith}
use Rattle.std.proofs.lemmas.Result.{err_from_is_err_and}
use Rattle.asl_machine.specs.View.{Configuration}
use Rattle.asl_code.specs.declared.image.Image.{Image}
use Rattle.asl_code.specs.Verified.{IsVerified}
use Rattle.asl_debugger.proofs.Marks.{so_far_of, so_far_on, all_followed}
use Rattle.asl_debugger.proofs.checkpoints.put_checkpoints.Goals as goal

pub loop-here-init : goal.loop-here-init
loop-here-init g c = c.in_ok-machine.ensures.so_far c.args.spacing

pub next_checkpoint-requires-clause-so_far : goal.next_checkpoint-requires-clause-so_far
next_checkpoint-requires-clause-so_far g c =
    so_far_of c.args.program.now c.args.journal.now c.args.spacing c.loop-here.here c.loop-here.machine c.loop-here.checkpoints.items c.loop-here.invariant

pub next_checkpoint-requires-clause-verified : goal.next_checkpoint-requires-clause-verified
next_checkpoint-requires-clause-verified g c =
    subst (λ (i : Image). IsVerified i) (sym (ap (λ (m : Configuration). m.image) c.loop-here.invariant.at)) c.first_checkpoint.ensures.verified

pub returns-in_err-machine-2-clause-refused : goal.returns-in_err-machine-2-clause-refused
returns-in_err-machine-2-clause-refused g c =
    let h = rw c.loop-here.invariant.at at c.in_err-machine-2.ensures.refused in
    let p = err_from_is_err_and c.from_residual-in_err-machine-2.result c.from_residual-in_err-machine-2.ensures.1 in
    rw (p.1, p.2) h

pub loop-here-preserved : goal.loop-here-preserved
loop-here-preserved g c =
    so_far_on c.args.program.now c.args.journal.now c.args.spacing c.loop-here.here _ c.loop-here.machine c.in_ok-machine-2.machine c.loop-here.checkpoints.items _ c.loop-here.invariant c.in_ok-machine-2.ensures.so_far

pub machine_between-requires-clause-from : goal.machine_between-requires-clause-from
machine_between-requires-clause-from g c = rw c.loop-here.invariant.at refl

pub returns-in_err-_end-clause-refused : goal.returns-in_err-_end-clause-refused
returns-in_err-_end-clause-refused g c =
    let so_far = c.loop-here.invariant in
    let h = rw so_far.at at c.in_err-_end.ensures.refused in
    let p = err_from_is_err_and c.from_residual-in_err-_end.result c.from_residual-in_err-_end.ensures.1 in
    rw (p.1, p.2) (h c.first_checkpoint.ensures.verified so_far.counted so_far.goes)

pub returns-clause-journal : goal.returns-clause-journal
returns-clause-journal g c =
    let so_far = c.loop-here.invariant in
    let h = rw (so_far.at, c.events-events.ensures.events) at c.in_ok-_end.ensures.goes in
    all_followed c.args.program.now c.args.journal.now c.first_checkpoint.ensures.verified so_far.counted c.events-events.ensures.log (h so_far.goes)

pub returns-clause-none_past : goal.returns-clause-none_past
returns-clause-none_past g c =
    let so_far = c.loop-here.invariant in
    omega (arith, so_far.last, so_far.within)
