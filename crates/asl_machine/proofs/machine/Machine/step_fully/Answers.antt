use Rattle.std.proofs.Common.{◌<◌, ◌∙◌, sym, subst, refl, length}
use Rattle.std.specs.Prelude.{IsSomeAnd}
use Rattle.std.proofs.lemmas.Option.{slice_get_read}
use Rattle.asl_machine.specs.WellFormed.{ThreadWantsMemory}
use Rattle.asl_machine.specs.View.{Configuration}
use Rattle.asl_machine.proofs.Readiness.{thread_ready}
use Rattle.asl_machine.proofs.Machines.{step_machine, step_state, step_reply, step_table, step_blocked}
use Rattle.asl_machine.proofs.machine.Machine.step_fully.Goals as goal

pub step-requires-clause-ready : goal.step-requires-clause-ready
step-requires-clause-ready c =
    let lt = subst (λ (m : Configuration). c.args.t < length m.state.threads) (sym c.self.view_is) c.requires.there in
    let at = slice_get_read c.self.inside.threads.items _ c.args.t c.index_mut-thread.result.now refl lt c.index_mut-thread.ensures.value in
    thread_ready c.self.inside.code c.self.inside.heap c.self.inside.forest c.self.inside.threads.items c.args.t c.index_mut-thread.result.now c.self.invariant at

pub returns-in_err-step-clause-memory : goal.returns-in_err-step-clause-memory
returns-in_err-step-clause-memory c =
    let lt = subst (λ (m : Configuration). c.args.t < length m.state.threads) (sym c.self.view_is) c.requires.there in
    let at = slice_get_read c.self.inside.threads.items _ c.args.t c.index_mut-thread.result.now refl lt c.index_mut-thread.ensures.value in
    λ _. rw (← c.self.view_is) (subst (λ o. IsSomeAnd o (ThreadWantsMemory c.self.inside.code c.self.inside.heap)) (sym at) c.in_err-step.ensures.memory)

pub invariant_of-self-2 : goal.invariant_of-self-2
invariant_of-self-2 c =
    let lt = subst (λ (m : Configuration). c.args.t < length m.state.threads) (sym c.self.view_is) c.requires.there in
    let at = slice_get_read c.self.inside.threads.items _ c.args.t c.index_mut-thread.result.now refl lt c.index_mut-thread.ensures.value in
    let told = c.in_ok-step.ensures in
    step_machine c.self.inside.code c.self.inside.heap c.step.new.heap c.self.inside.forest c.step.new.forest c.self.inside.threads.items c.args.t
    c.index_mut-thread.result.now c.step.new.self c.self.invariant at told.thread told.objects told.holding told.classes told.threads

pub returns-clause-step : goal.returns-clause-step
returns-clause-step c =
    let lt = subst (λ (m : Configuration). c.args.t < length m.state.threads) (sym c.self.view_is) c.requires.there in
    let at = slice_get_read c.self.inside.threads.items _ c.args.t c.index_mut-thread.result.now refl lt c.index_mut-thread.ensures.value in
    let told = c.in_ok-step.ensures in
    rw (← c.self.view_is) (step_table c.self.inside.code c.self.inside.heap c.self.inside.forest c.self.inside.threads.items c.args.t c.in_ok-step.field-0 _ c.self.invariant lt
    (told.reply ∙ step_reply c.self.inside.code c.self.inside.heap c.self.inside.forest c.self.inside.threads.items c.args.t c.index_mut-thread.result.now c.self.invariant at)
    (step_state c.self.inside.code c.self.inside.heap c.step.new.heap c.self.inside.forest c.step.new.forest c.self.inside.threads.items c.args.t
    c.index_mut-thread.result.now c.step.new.self c.self.invariant at told.thread told.objects told.holding))

pub returns-clause-blocked : goal.returns-clause-blocked
returns-clause-blocked c =
    let lt = subst (λ (m : Configuration). c.args.t < length m.state.threads) (sym c.self.view_is) c.requires.there in
    let at = slice_get_read c.self.inside.threads.items _ c.args.t c.index_mut-thread.result.now refl lt c.index_mut-thread.ensures.value in
    λ b. rw (← c.self.view_is) (step_blocked c.self.inside.code c.self.inside.heap c.self.inside.forest c.self.inside.threads.items c.args.t c.in_ok-step.field-0 c.self.invariant
    (c.in_ok-step.ensures.reply ∙ step_reply c.self.inside.code c.self.inside.heap c.self.inside.forest c.self.inside.threads.items c.args.t c.index_mut-thread.result.now c.self.invariant at) b)
