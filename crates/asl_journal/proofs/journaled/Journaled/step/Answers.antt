use Rattle.std.proofs.Common.{◌≡◌, ◌++◌, ◌∷◌, [], List, length, arith, ap, ◌∙◌, subst, sym}
use Rattle.asl_machine.specs.State.{Activity, activity_at}
use Rattle.asl_machine.proofs.Reached.{line_count}
use Rattle.asl_journal.specs.declared.event.Event.{Event}
use Rattle.asl_journal.specs.Journal.{IsJournal, LeadsTo}
use Rattle.asl_journal.specs.Recorded.{Fits}
use Rattle.asl_journal.proofs.Recordings.{fits_step, no_activity}
use Rattle.asl_journal.proofs.journaled.Journaled.step.Goals as goal

pub invariant_of-self-2 : goal.invariant_of-self-2
invariant_of-self-2 g c =
    let event : Event = record { thread = c.args.t; reply = c.in_ok-reply.reply } in
    let told = c.in_ok-reply.ensures in
    let count = line_count c.self.inside.machine.image c.self.inside.machine.state c.args.t c.in_ok-reply.reply c.step_machine.new.machine.state told.step in
    let fits = fits_step c.self.inside.machine c.step_machine.new.machine c.self.inside.events.items event c.self.invariant (omega arith) (omega arith) told.image told.step count in
    let items : c.push_reserved.new.self.items ≡ c.self.inside.events.items ++ event ∷ [] = c.push_reserved.ensures.items ∙ ap (λ (es : List Event). es ++ event ∷ []) c.in_ok-reserve.ensures.items in
    subst (λ (es : List Event). Fits c.step_machine.new.machine (length c.step_machine.new.machine.state.threads) es) (sym items) fits

pub returns-clause-step : goal.returns-clause-step
returns-clause-step g c = rw (← c.self.view_is) c.in_ok-reply.ensures.step

pub returns-clause-ended : goal.returns-clause-ended
returns-clause-ended g c =
    no_activity (λ (activity : Activity). activity.top.pc) (activity_at c.step_machine.new.machine.state.threads c.args.t) c.pc.result c.is_none-ended.result c.pc.ensures c.is_none-ended.ensures

pub returns-clause-journal : goal.returns-clause-journal
returns-clause-journal g c =
    let event : Event = record { thread = c.args.t; reply = c.in_ok-reply.reply } in
    let told = c.in_ok-reply.ensures in
    let count = line_count c.self.inside.machine.image c.self.inside.machine.state c.args.t c.in_ok-reply.reply c.step_machine.new.machine.state told.step in
    let fits = fits_step c.self.inside.machine c.step_machine.new.machine c.self.inside.events.items event c.self.invariant (omega arith) (omega arith) told.image told.step count in
    let items : c.push_reserved.new.self.items ≡ c.self.inside.events.items ++ event ∷ [] = c.push_reserved.ensures.items ∙ ap (λ (es : List Event). es ++ event ∷ []) c.in_ok-reserve.ensures.items in
    subst (IsJournal c.step_machine.new.machine.image (length c.step_machine.new.machine.state.threads)) (sym items) fits.journal

pub returns-clause-leads : goal.returns-clause-leads
returns-clause-leads g c =
    let event : Event = record { thread = c.args.t; reply = c.in_ok-reply.reply } in
    let told = c.in_ok-reply.ensures in
    let count = line_count c.self.inside.machine.image c.self.inside.machine.state c.args.t c.in_ok-reply.reply c.step_machine.new.machine.state told.step in
    let fits = fits_step c.self.inside.machine c.step_machine.new.machine c.self.inside.events.items event c.self.invariant (omega arith) (omega arith) told.image told.step count in
    let items : c.push_reserved.new.self.items ≡ c.self.inside.events.items ++ event ∷ [] = c.push_reserved.ensures.items ∙ ap (λ (es : List Event). es ++ event ∷ []) c.in_ok-reserve.ensures.items in
    subst (λ (es : List Event). LeadsTo c.step_machine.new.machine.image (length c.step_machine.new.machine.state.threads) es c.step_machine.new.machine.state) (sym items) fits.leads
