use Rattle.std.proofs.Common.{ℕ, ◌<◌, subst}
use Rattle.std.proofs.lemmas.List.{take_all}
use Rattle.std.proofs.lemmas.List.Elements.{All-more}
use Rattle.asl_journal.specs.declared.event.Event.{Event}
use Rattle.asl_journal.specs.Journal.{AreThere}
use Rattle.asl_journal.proofs.journal.are_there.Goals as goal

pub loop-event-preserved : goal.loop-event-preserved
loop-event-preserved c =
    All-more (λ (e : Event). e.thread < c.args.n) c.args.events.now c.loop-event.event-index _ c.loop-event-test.true c.loop-event.invariant (subst (λ (t : ℕ). t < c.args.n) c.from.ensures c.if-from-n.false)

pub returns : goal.returns
returns c = subst (AreThere c.args.n) (take_all c.loop-event.event-index c.args.events.now c.loop-event-test.false) c.loop-event.invariant
