use Rattle.std.proofs.Common.{length, subst, sym, List}
use Rattle.asl_journal.specs.declared.event.Event.{Event}
use Rattle.asl_journal.specs.Recorded.{Fits}
use Rattle.asl_journal.proofs.Recordings.{fits_start, machine_count, in_count}
use Rattle.asl_journal.proofs.journaled.Journaled.start.Goals as goal

pub invariant_of-result : goal.invariant_of-result
invariant_of-result g c =
    let told = c.in_ok-machine.ensures in
    subst (λ (es : List Event). Fits c.in_ok-machine.machine (length c.in_ok-machine.machine.state.threads) es) (sym c.new.ensures.items)
    (fits_start c.in_ok-machine.machine c.args.program.now c.args.n (in_count c.args.program.now c.args.n (λ taken. cc (told.count.1 taken))) c.threads.ensures.verified told.image told.start)

pub returns-clause-threads : goal.returns-clause-threads
returns-clause-threads g c = machine_count c.in_ok-machine.machine c.args.program.now c.args.n c.in_ok-machine.ensures.start
