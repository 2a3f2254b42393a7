use Rattle.std.proofs.Common.{◌≡◌, ◌∙◌, ◌≤◌, ap, sym, arith, get_or, length, Some, slice_get, List}
use Rattle.std.proofs.Math.Nat.{mod-lt}
use Rattle.std.proofs.lemmas.Option.{slice_get-get_or, slice_get_within}
use Rattle.asl_machine.specs.declared.reply.Reply.TheVariants.{Ran}
use Rattle.asl_journal.specs.declared.event.Event.{Event}
use Rattle.asl_runner.proofs.Dealing.{all_come, all_come_on, wrong_here_now}
use Rattle.asl_runner.proofs.compare.wrong_worker.Goals as goal

pub returns-then-not-is_next : goal.returns-then-not-is_next
returns-then-not-is_next c =
    let report = c.args.report.now in
    let events = c.events-event-items in
    let event : Event = get_or events.result.now c.loop-index.index (record { thread = 0; reply = Ran }) in
    let at : slice_get report.journal.events c.loop-index.index ≡ Some event =
    ap (λ (es : List Event). slice_get es c.loop-index.index) (sym events.ensures.events) ∙ slice_get-get_or events.result.now c.loop-index.index (record { thread = 0; reply = Ran }) c.loop-index-test.true in
    let dealers : length report.receipts.items ≡ c.args.workers = omega (arith, c.requires.receipts, report.receipts.ok.0) in (
      mod-lt event.thread c.requires.some,
      wrong_here_now c.args.workers report.machine.state report.journal.events report.receipts.items c.loop-index.next c.loop-index.index event c.index.result.now
          c.as_slice-receipts.result.now c.from.result c.from-in-loop-index.result at c.requires.some dealers c.from.ensures c.from-in-loop-index.ensures c.index.ensures
          c.as_slice-receipts.ensures.value c.loop-index.invariant.1 c.if-not-is_next.ensures,
    )

pub overflow_add-next : goal.overflow_add-next
overflow_add-next c =
    let found = c.if-not-is_next.ensures in
    let lt = slice_get_within c.as_slice-receipts.result.now (get_or c.loop-index.next c.from.result 0) found.0 found.1 in
    omega (arith, lt, c.as_slice-receipts.type_inv.0)

pub loop-index-preserved : goal.loop-index-preserved
loop-index-preserved c =
    let report = c.args.report.now in
    let events = c.events-event-items in
    let event : Event = get_or events.result.now c.loop-index.index (record { thread = 0; reply = Ran }) in
    let at : slice_get report.journal.events c.loop-index.index ≡ Some event =
    ap (λ (es : List Event). slice_get es c.loop-index.index) (sym events.ensures.events) ∙ slice_get-get_or events.result.now c.loop-index.index (record { thread = 0; reply = Ran }) c.loop-index-test.true in
    let dealers : length report.receipts.items ≡ c.args.workers = omega (arith, c.requires.receipts, report.receipts.ok.0) in
    all_come_on c.args.workers report.machine.state report.journal.events report.receipts.items c.loop-index.next c.loop-index.index event c.index.result.now
    c.as_slice-receipts.result.now c.from.result c.from-in-loop-index.result at c.requires.some dealers c.from.ensures c.from-in-loop-index.ensures c.index.ensures
    c.as_slice-receipts.ensures.value c.loop-index.invariant.1 c.from-in-loop-index-2.result c.from-in-loop-index-2.ensures c.loop-index.invariant.0 c.requires.few c.if-not-is_next.ensures

pub left_over-requires-clause-come : goal.left_over-requires-clause-come
left_over-requires-clause-come c =
    let report = c.args.report.now in
    let end : length report.journal.events ≤ c.loop-index.index = omega (arith, c.loop-index-test.false, ap (λ (es : List Event). length es) c.events-event-items.ensures.events) in
    all_come c.args.workers report.machine.state report.journal.events report.receipts.items c.loop-index.next c.loop-index.index end c.loop-index.invariant.1
