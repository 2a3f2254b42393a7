use Rattle.std.proofs.Common.{◌≡◌, List, Err, ◌∙◌, ap, arith, get_or, inl, inr}
use Rattle.std.proofs.lemmas.Result.{err_from_is_err_and}
use Rattle.asl_machine.specs.WellFormed.{MayWantMemory}
use Rattle.asl_machine.specs.declared.fault.MachineFault.{MachineFault}
use Rattle.asl_machine.specs.declared.reply.Reply.TheVariants.{Ran}
use Rattle.asl_journal.specs.declared.event.Event.{Event}
use Rattle.asl_debugger.proofs.Positions.{made, there_at, wants_at}
use Rattle.asl_debugger.proofs.checkpoints.make_event.Goals as goal

pub returns-clause-made : goal.returns-clause-made
returns-clause-made g c =
    let told = c.in_ok-step_machine.ensures in
    made c.args.journal.now c.args.machine.now c.step_machine.new.machine c.args.position (record { thread = 0; reply = Ran }) c.from.result _ c.requires.there c.requires.at
    (c.from.ensures ∙ ap (λ (es : List Event). (get_or es c.args.position (record { thread = 0; reply = Ran })).thread) c.events-events.ensures.events) told.image told.step

pub returns-in_err-step_machine-clause-wants : goal.returns-in_err-step_machine-clause-wants
returns-in_err-step_machine-clause-wants g c =
    let log = c.args.journal.now in
    let machine = c.args.machine.now in
    let first : Event = record { thread = 0; reply = Ran } in
    let told = c.in_err-step_machine.ensures in
    let thread : c.from.result ≡ (get_or log.events c.args.position first).thread = c.from.ensures ∙ ap (λ (es : List Event). (get_or es c.args.position first).thread) c.events-events.ensures.events in
    let there = there_at machine log c.args.position first c.from.result c.requires.there c.requires.at c.events-events.ensures.log thread in
    let wants : MayWantMemory machine.image machine.state c.from.result = elim told.other [
      | inl bad ↦ let few = told.thread.0 (ap (λ (f : MachineFault). Err f) bad) in absurd (omega (arith, few, there))
      | inr memory ↦ told.memory (ap (λ (f : MachineFault). Err f) memory)
    ] in
    let p = err_from_is_err_and c.from_residual.result c.from_residual.ensures.1 in
    rw p.1 (wants_at machine log c.args.position first c.from.result c.requires.there c.requires.at thread wants)

pub returns-in_err-step_machine-clause-growth : goal.returns-in_err-step_machine-clause-growth
returns-in_err-step_machine-clause-growth g c =
    let log = c.args.journal.now in
    let machine = c.args.machine.now in
    let first : Event = record { thread = 0; reply = Ran } in
    let told = c.in_err-step_machine.ensures in
    let thread : c.from.result ≡ (get_or log.events c.args.position first).thread = c.from.ensures ∙ ap (λ (es : List Event). (get_or es c.args.position first).thread) c.events-events.ensures.events in
    let there = there_at machine log c.args.position first c.from.result c.requires.there c.requires.at c.events-events.ensures.log thread in
    let p = err_from_is_err_and c.from_residual.result c.from_residual.ensures.1 in
    rw p.1 (elim told.other [
      | inl bad ↦ let few = told.thread.0 (ap (λ (f : MachineFault). Err f) bad) in absurd (omega (arith, few, there))
      | inr memory ↦ told.growth (ap (λ (f : MachineFault). Err f) memory)
    ])
