use Rattle.std.proofs.Common.{◌<◌, ◌∙◌, sym, refl, length, arith}
use Rattle.std.proofs.lemmas.Option.{slice_get_read}
use Rattle.asl_machine.specs.declared.reply.Reply.TheVariants as reply
use Rattle.asl_machine.proofs.Readiness.{thread_ready}
use Rattle.asl_machine.proofs.Machines.{step_machine, step_state, step_reply, step_table}
use Rattle.asl_machine.proofs.machine.Machine.step.Goals as goal

pub try_local_step-requires : goal.try_local_step-requires
try_local_step-requires c =
    let lt : c.args.t < length c.self.inside.threads.items = omega arith in
    let at = slice_get_read c.self.inside.threads.items _ c.args.t c.index_mut-thread.result.now refl lt c.index_mut-thread.ensures.value in
    record { ready = thread_ready c.self.inside.code c.self.inside.heap c.self.inside.forest c.self.inside.threads.items c.args.t c.index_mut-thread.result.now c.self.invariant at }

pub invariant_of-self : goal.invariant_of-self
invariant_of-self c =
    let lt : c.args.t < length c.self.inside.threads.items = omega arith in
    let at = slice_get_read c.self.inside.threads.items _ c.args.t c.index_mut-thread.result.now refl lt c.index_mut-thread.ensures.value in
    let told = c.try_local_step.ensures in
    let is = c.if-try_local_step.true in
    step_machine c.self.inside.code c.self.inside.heap c.self.inside.heap c.self.inside.forest c.self.inside.forest c.self.inside.threads.items c.args.t
    c.index_mut-thread.result.now c.try_local_step.new.self c.self.invariant at (told.thread is) (told.objects is) (told.holding is) refl refl

pub returns-then-try_local_step-clause-step : goal.returns-then-try_local_step-clause-step
returns-then-try_local_step-clause-step c =
    let lt : c.args.t < length c.self.inside.threads.items = omega arith in
    let at = slice_get_read c.self.inside.threads.items _ c.args.t c.index_mut-thread.result.now refl lt c.index_mut-thread.ensures.value in
    let told = c.try_local_step.ensures in
    let is = c.if-try_local_step.true in
    rw (← c.self.view_is) (step_table c.self.inside.code c.self.inside.heap c.self.inside.forest c.self.inside.threads.items c.args.t reply.Ran _ c.self.invariant lt
    (sym (told.reply is) ∙ step_reply c.self.inside.code c.self.inside.heap c.self.inside.forest c.self.inside.threads.items c.args.t c.index_mut-thread.result.now c.self.invariant at)
    (step_state c.self.inside.code c.self.inside.heap c.self.inside.heap c.self.inside.forest c.self.inside.forest c.self.inside.threads.items c.args.t
    c.index_mut-thread.result.now c.try_local_step.new.self c.self.invariant at (told.thread is) (told.objects is) (told.holding is)))
