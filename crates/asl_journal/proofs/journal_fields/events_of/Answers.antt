use Rattle.std.proofs.Common.{Some}
use Rattle.std.proofs.lemmas.Result.{err_from_is_err_and}
use Rattle.asl_loader.specs.SharedFields.{IsKept}
use Rattle.asl_loader.specs.ImageFields.{items_at}
use Rattle.asl_loader.proofs.Loop.{kept_first, kept_more, kept_all, kept_ends}
use Rattle.asl_journal.specs.declared.event.Event.{Event}
use Rattle.asl_journal.specs.JournalFields.{event_at}
use Rattle.asl_journal.proofs.journal_fields.events_of.Goals as goal

pub loop-init : goal.loop-init
loop-init c = kept_first Event (event_at c.args.threads) (IsKept (Some c.new.result)) c.args.count c.args.bytes.now c.new.ensures

pub returns-in_err-event : goal.returns-in_err-event
returns-in_err-event c =
    let p = err_from_is_err_and c.from_residual.result c.from_residual.ensures.1 in
    rw (p.1, p.2) (kept_ends Event (event_at c.args.threads) c.in_err-event.field-0.0 (IsKept c.loop.events) c.args.count c.loop.counter c.loop.rest.now (items_at (event_at c.args.threads) c.args.count c.args.bytes.now) c.loop.invariant c.loop-test.true c.in_err-event.ensures)

pub loop-preserved : goal.loop-preserved
loop-preserved c = kept_more Event (event_at c.args.threads) (IsKept c.loop.events) (IsKept c.keep.new.events) c.args.count c.loop.counter c.loop.rest.now c.in_ok-event.event c.in_ok-event.after.now (items_at (event_at c.args.threads) c.args.count c.args.bytes.now) c.loop.invariant c.loop-test.true c.in_ok-event.ensures c.keep.ensures

pub returns : goal.returns
returns c = kept_all Event (event_at c.args.threads) (IsKept c.loop.events) c.args.count c.loop.counter c.loop.rest.now (items_at (event_at c.args.threads) c.args.count c.args.bytes.now) c.loop.invariant c.loop-test.false
