use Rattle.std.proofs.Common.{ap, subst, length, get_or, inl, inr, Err, ◌<◌, ℕ, arith}
use Rattle.std.proofs.lemmas.List.Elements.{All-get_or}
use Rattle.asl_machine.specs.declared.fault.MachineFault.{MachineFault}
use Rattle.asl_machine.specs.declared.reply.Reply.TheVariants.{Ran}
use Rattle.asl_machine.specs.Step.{Step}
use Rattle.asl_machine.specs.WellFormed.{MayWantMemory}
use Rattle.asl_machine.proofs.Reached.{line_count}
use Rattle.asl_journal.specs.declared.event.Event.{Event}
use Rattle.asl_journal.proofs.Replays.{may_stop, one_differs, one_followed}
use Rattle.asl_journal.proofs.journal_replay.run_on.Goals as goal

pub loop-index-preserved : goal.loop-index-preserved
loop-index-preserved g c =
    let told = c.in_ok-reply.ensures in
    let old = c.loop-index.machine in
    let new = c.step_machine.new.machine in
    one_followed c.args.machine old new c.args.events.now c.loop-index.index (record { thread = 0; reply = Ran }) c.in_ok-reply.reply c.loop-index-test.true c.loop-index.invariant told.image
    (subst (λ (t : ℕ). Step old.image old.state t c.in_ok-reply.reply new.state) c.from.ensures told.step) (line_count old.image old.state c.from.result c.in_ok-reply.reply new.state told.step) c.if-not-are_same.ensures

pub returns-then-not-are_same-clause-refused : goal.returns-then-not-are_same-clause-refused
returns-then-not-are_same-clause-refused g c =
    let old = c.loop-index.machine in
    let new = c.step_machine.new.machine in
    one_differs c.args.machine old c.args.events.now c.loop-index.index (record { thread = 0; reply = Ran }) c.in_ok-reply.reply new.state c.loop-index-test.true c.loop-index.invariant
    (subst (λ (t : ℕ). Step old.image old.state t c.in_ok-reply.reply new.state) c.from.ensures c.in_ok-reply.ensures.step) c.if-not-are_same.ensures

pub returns-in_err-reply-clause-memory : goal.returns-in_err-reply-clause-memory
returns-in_err-reply-clause-memory g c =
    λ wanted.
    let first : Event = record { thread = 0; reply = Ran } in
    let told = c.in_err-reply.ensures in
    let old = c.loop-index.machine in
    let events = c.args.events.now in
    let here : (get_or events c.loop-index.index first).thread < length old.state.threads =
    rw c.loop-index.invariant.count (All-get_or (λ (e : Event). e.thread < length c.args.machine.state.threads) events c.loop-index.index first c.loop-index-test.true c.requires.there) in
    let wants : MayWantMemory old.image old.state c.from.result = elim told.other [
      | inl bad ↦ let few = told.thread.0 (ap (λ (f : MachineFault). Err f) bad) in absurd (omega (arith, few, here, c.from.ensures))
      | inr memory ↦ told.memory (ap (λ (f : MachineFault). Err f) memory)
    ] in
    (c.loop-index.index, may_stop c.args.machine old events c.loop-index.index first c.loop-index-test.true c.loop-index.invariant (subst (λ (t : ℕ). MayWantMemory old.image old.state t) c.from.ensures wants))
