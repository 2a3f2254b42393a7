use Rattle.std.proofs.Common.{◌<◌, ◌+◌, ◌-◌, List, take, drop, ap, ◌∙◌}
use Rattle.std.proofs.lemmas.List.Elements.{All-take, All-drop}
use Rattle.asl_machine.specs.ComputedRun.{state_after}
use Rattle.asl_machine.specs.State.{State}
use Rattle.asl_journal.specs.declared.event.Event.{Event}
use Rattle.asl_journal.specs.Journal.{schedule_of}
use Rattle.asl_journal.proofs.ByTable.{run_computed}
use Rattle.asl_journal.proofs.Differences.{none_from, differs_of, differs_computed}
use Rattle.asl_debugger.specs.Computed.{state_before}
use Rattle.asl_debugger.proofs.Positions.{threads_of, state_between, goes_between, goes_from, differs_between, is_at}
use Rattle.asl_debugger.proofs.checkpoints.machine_between.Goals as goal

pub run_on-requires-clause-there : goal.run_on-requires-clause-there
run_on-requires-clause-there g c =
    let log = c.args.journal.now in
    let count = threads_of c.args.from.image log c.args.start c.args.from.state c.requires.from in
    rw (c.events-events.ensures.events, count)
    (All-take (λ (e : Event). e.thread < log.threads) (c.args.end - c.args.start) (drop c.args.start log.events) (All-drop (λ (e : Event). e.thread < log.threads) c.args.start log.events c.events-events.ensures.log.there))

pub returns-in-Ok-clause-machine : goal.returns-in-Ok-clause-machine
returns-in-Ok-clause-machine g c =
    let from = c.args.from in
    let log = c.args.journal.now in
    let slice = λ (es : List Event). take (c.args.end - c.args.start) (drop c.args.start es) in
    let told = run_computed from.image from.state c.in-Ok.machine.state (slice c.events-events.result.now) c.in-Ok.ensures.leads in
    is_at c.in-Ok.machine from.image (state_before from.image log c.args.end) c.in-Ok.ensures.image
    (told.1
    ∙ ap (λ (es : List Event). state_after from.image from.state (schedule_of (slice es))) c.events-events.ensures.events
    ∙ ap (λ (s : State). state_after from.image s (schedule_of (slice log.events))) c.requires.from
    ∙ state_between from.image log c.args.start c.args.end c.requires.order)

pub returns-in-Ok-clause-goes : goal.returns-in-Ok-clause-goes
returns-in-Ok-clause-goes g c front =
    let from = c.args.from in
    let slice = take (c.args.end - c.args.start) (drop c.args.start c.events-events.result.now) in
    let told = run_computed from.image from.state c.in-Ok.machine.state slice c.in-Ok.ensures.leads in
    goes_between from.image c.args.journal.now c.args.start c.args.end c.requires.order front (rw (c.events-events.ensures.events, c.requires.from) at told.0)

pub returns-in-Err-Differs-clause-refused : goal.returns-in-Err-Differs-clause-refused
returns-in-Err-Differs-clause-refused g c verified few front =
    let from = c.args.from in
    let slice = take (c.args.end - c.args.start) (drop c.args.start c.events-events.result.now) in
    let told = differs_computed from.image from.state slice c.in-Err-Differs.index (rw c.in-Err-Differs.field-0-is at c.in-Err-Differs.ensures.refused) in
    let d = rw (c.events-events.ensures.events, c.requires.from) at told in
    let log = c.args.journal.now in
    let index = c.args.start + c.in-Err-Differs.index in (
      few.1,
      differs_of c.args.from.image log.threads log.events index verified few c.events-events.ensures.log.there
          (differs_between c.args.from.image log c.args.start c.args.end c.requires.order c.in-Err-Differs.index front d),
    )

pub returns-in-Err-Differs-clause-only : goal.returns-in-Err-Differs-clause-only
returns-in-Err-Differs-clause-only g c j =
    let from = c.args.from in
    let slice = take (c.args.end - c.args.start) (drop c.args.start c.events-events.result.now) in
    let told = differs_computed from.image from.state slice c.in-Err-Differs.index (rw c.in-Err-Differs.field-0-is at c.in-Err-Differs.ensures.refused) in
    let d = rw (c.events-events.ensures.events, c.requires.from) at told in
    absurd (none_from c.args.from.image (state_before c.args.from.image c.args.journal.now c.args.start) (take (c.args.end - c.args.start) (drop c.args.start c.args.journal.now.events)) c.in-Err-Differs.index
    (goes_from c.args.from.image c.args.journal.now c.args.start c.args.end c.requires.order j) d)
