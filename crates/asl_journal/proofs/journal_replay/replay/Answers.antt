use Rattle.std.proofs.Common.{ℕ, List, length, ap, subst, sym, ◌∙◌}
use Rattle.asl_code.specs.Verified.{IsVerified}
use Rattle.asl_machine.specs.Run.{start_of}
use Rattle.asl_journal.specs.declared.event.Event.{Event}
use Rattle.asl_journal.specs.Journal.{AreThere}
use Rattle.asl_journal.proofs.Recordings.{machine_count, in_count}
use Rattle.asl_journal.proofs.Replays.{replayed_journal, replayed_leads, replayed_refused}
use Rattle.asl_journal.proofs.Differences.{only_memory_at}
use Rattle.asl_journal.proofs.journal_replay.replay.Goals as goal

pub run_on-requires-clause-there : goal.run_on-requires-clause-there
run_on-requires-clause-there g c =
    let count = machine_count c.in_ok-machine.machine c.args.program.now c.threads.result c.in_ok-machine.ensures.start ∙ c.threads.ensures.threads in
    subst (λ (es : List Event). AreThere (length c.in_ok-machine.machine.state.threads) es) (sym c.events.ensures.events)
    (subst (λ (n : ℕ). AreThere n c.args.journal.now.events) (sym count) c.events.ensures.log.there)

pub returns-clause-journal : goal.returns-clause-journal
returns-clause-journal g c =
    let told = c.in_ok-machine.ensures in
    let n = c.args.journal.now.threads in
    let counted = in_count c.args.program.now n (rw (← c.threads.ensures.threads) (λ taken. cc (told.count.1 taken))) in
    replayed_journal c.args.program.now c.args.journal.now (subst IsVerified told.image c.threads-2.ensures.verified) counted c.events.ensures.log.there c.in_ok-machine.machine told.image (rw (← c.threads.ensures.threads) told.start) c.run_on.result
    (rw (← c.events.ensures.events) c.run_on.ensures.leads)

pub returns-clause-leads : goal.returns-clause-leads
returns-clause-leads g c =
    let told = c.in_ok-machine.ensures in
    let n = c.args.journal.now.threads in
    let counted = in_count c.args.program.now n (rw (← c.threads.ensures.threads) (λ taken. cc (told.count.1 taken))) in
    replayed_leads c.args.program.now c.args.journal.now (subst IsVerified told.image c.threads-2.ensures.verified) counted c.events.ensures.log.there c.in_ok-machine.machine told.image (rw (← c.threads.ensures.threads) told.start) c.run_on.result
    (rw (← c.events.ensures.events) c.run_on.ensures.leads)

pub returns-clause-only : goal.returns-clause-only
returns-clause-only g c j =
    only_memory_at c.in_ok-machine.machine c.events.result.now c.args.program.now (start_of c.args.program.now c.args.journal.now.threads) j.end c.args.journal.now.events c.run_on.result
    c.in_ok-machine.ensures.image (c.in_ok-machine.ensures.start ∙ ap (start_of c.args.program.now) c.threads.ensures.threads) c.events.ensures.events
    j.leads.runs c.run_on.ensures.refused

pub returns-clause-refused : goal.returns-clause-refused
returns-clause-refused g c =
    let told = c.in_ok-machine.ensures in
    let n = c.args.journal.now.threads in
    let counted = in_count c.args.program.now n (rw (← c.threads.ensures.threads) (λ taken. cc (told.count.1 taken))) in
    replayed_refused c.args.program.now c.args.journal.now (subst IsVerified told.image c.threads-2.ensures.verified) counted c.events.ensures.log.there c.in_ok-machine.machine told.image (rw (← c.threads.ensures.threads) told.start)
    c.run_on.result (rw (← c.events.ensures.events) c.run_on.ensures.refused)
