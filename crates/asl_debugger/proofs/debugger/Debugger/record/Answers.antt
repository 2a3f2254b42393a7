use Rattle.std.proofs.Common.{◌≡◌, ◌<◌, ◌+◌, ◌*◌, ◌++◌, ◌∷◌, [], ℕ, List, length, ap, sym, ◌∙◌}
use Rattle.asl_machine.specs.View.{Configuration}
use Rattle.asl_machine.specs.Paused.{Rest}
use Rattle.asl_journal.specs.Journal.{most_events}
use Rattle.asl_debugger.proofs.Positions.{threads_of}
use Rattle.asl_debugger.proofs.Recording.{kept_with, kept_behind, step_between}
use Rattle.asl_debugger.proofs.debugger.Debugger.record.Goals as goal

pub write_marked-requires-clause-threads : goal.write_marked-requires-clause-threads
write_marked-requires-clause-threads g c =
    let d = c.self.inside in
    threads_of d.machine.image d.journal d.position d.machine.state (ap (λ (m : Configuration). m.state) c.self.invariant.shown)

pub invariant_of-self-then-next-len : goal.invariant_of-self-then-next-len
invariant_of-self-then-next-len g c =
    let d = c.self.inside in
    let told = c.in_ok-reply.ensures in
    let mark = told.mark in
    let end : d.position ≡ length d.journal.events = rw (← c.self.view_is) at c.requires.end in
    let room : length d.journal.events < most_events = rw (← c.self.view_is) at c.requires.room in
    let there : c.args.t < d.journal.threads = rw (← c.self.view_is) at c.requires.thread in
    let due : d.position + 1 ≡ length d.checkpoints.items * d.spacing = c.if-next-len.true ∙ ap (λ (n : ℕ). n * d.spacing) (c.len.ensures ∙ d.checkpoints.ok.0) in
    rw (told.event, mark.items) (kept_with d.machine.image d.journal d.spacing d.position d.checkpoints.items d.marks.items d.machine c.write_marked.new.machine c.args.t c.in_ok-reply.reply c.self.invariant end room there
    told.image told.step mark.rest due mark.fits mark.ahead)

pub write_step-requires-clause-threads :
    goal.write_step-requires-clause-threads
write_step-requires-clause-threads g c =
    let d = c.self.inside in
    threads_of d.machine.image d.journal d.position d.machine.state (ap (λ (m : Configuration). m.state) c.self.invariant.shown)

pub invariant_of-self-else-next-len : goal.invariant_of-self-else-next-len
invariant_of-self-else-next-len g c =
    let d = c.self.inside in
    let told = c.in_ok-reply-2.ensures in
    let end : d.position ≡ length d.journal.events = rw (← c.self.view_is) at c.requires.end in
    let room : length d.journal.events < most_events = rw (← c.self.view_is) at c.requires.room in
    let there : c.args.t < d.journal.threads = rw (← c.self.view_is) at c.requires.thread in
    let none_due = λ (e : d.position + 1 ≡ length d.checkpoints.items * d.spacing). c.if-next-len.false (e ∙ sym (ap (λ (n : ℕ). n * d.spacing) (c.len.ensures ∙ d.checkpoints.ok.0))) in
    rw told.event (kept_behind d.machine.image d.journal d.spacing d.position d.checkpoints.items d.marks.items d.machine c.write_step.new.machine c.args.t c.in_ok-reply-2.reply c.self.invariant end room
    there told.image told.step none_due)

pub returns-in_ok-reply-clause-step : goal.returns-in_ok-reply-clause-step
returns-in_ok-reply-clause-step g c =
    let d = c.self.inside in
    let told = c.in_ok-reply.ensures in
    let end : d.position ≡ length d.journal.events = rw (← c.self.view_is) at c.requires.end in
    let room : length d.journal.events < most_events = rw (← c.self.view_is) at c.requires.room in
    let there : c.args.t < d.journal.threads = rw (← c.self.view_is) at c.requires.thread in
    rw (← c.self.view_is, told.event) (step_between d.machine.image d.journal d.spacing d.position d.checkpoints.items d.marks.items d.machine c.write_marked.new.machine c.args.t c.in_ok-reply.reply c.self.invariant end room
    there told.image told.step d.breakpoints.items)

pub returns-in_ok-reply-2-clause-step : goal.returns-in_ok-reply-2-clause-step
returns-in_ok-reply-2-clause-step g c =
    let d = c.self.inside in
    let told = c.in_ok-reply-2.ensures in
    let end : d.position ≡ length d.journal.events = rw (← c.self.view_is) at c.requires.end in
    let room : length d.journal.events < most_events = rw (← c.self.view_is) at c.requires.room in
    let there : c.args.t < d.journal.threads = rw (← c.self.view_is) at c.requires.thread in
    rw (← c.self.view_is, told.event) (step_between d.machine.image d.journal d.spacing d.position d.checkpoints.items d.marks.items d.machine c.write_step.new.machine c.args.t c.in_ok-reply-2.reply
    c.self.invariant end room there told.image told.step d.breakpoints.items)
