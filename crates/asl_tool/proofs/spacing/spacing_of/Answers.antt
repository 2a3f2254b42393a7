use Rattle.std.proofs.Common.{◌≡◌, ◌+◌, length, refl, ap, sym, ◌∙◌, inl, inr, Err, arith}
use Rattle.asl_journal.specs.Journal.{IsJournal, LeadsTo}
use Rattle.asl_journal.proofs.ByTable.{one_end}
use Rattle.asl_machine.specs.State.{State}
use Rattle.asl_machine.specs.Run.{start_of}
use Rattle.asl_tool.specs.Spacing.{heap_bytes, spacing_at, stack_bytes}
use Rattle.asl_tool.proofs.HeapBytes.{least_kept, refused_or_none}
use Rattle.asl_tool.proofs.spacing.spacing_of.Goals as goal

pub returns-then-most-eq-LEAST-clause-spacing : goal.returns-then-most-eq-LEAST-clause-spacing
returns-then-most-eq-LEAST-clause-spacing g c =
    let program = c.args.program.now in
    let journal = c.args.journal.now in
    let count : length c.events.result.now ≡ length journal.events = ap length c.events.ensures.events in
    let stacks = c.stack_bytes-stacks.ensures.bytes ∙ ap (stack_bytes program) c.threads.ensures.threads in
    inl (λ s leads.
    let enough = c.most_heap_bytes.ensures.enough journal.threads journal.events s (omega (arith, count)) leads in
    let least : spacing_at (length journal.events) (c.stack_bytes-stacks.result + c.most_heap_bytes.result) ≡ 1024 =
    ap (λ n. spacing_at n (c.stack_bytes-stacks.result + c.most_heap_bytes.result)) (sym count) ∙ sym c.spacing_for-most.ensures.spacing ∙ c.if-most-eq-LEAST.true in
    sym (least_kept (length journal.events) (stack_bytes program journal.threads + heap_bytes s.objects) (c.stack_bytes-stacks.result + c.most_heap_bytes.result)
    (omega (arith, enough, stacks)) least))

pub returns-in-Ok-clause-spacing : goal.returns-in-Ok-clause-spacing
returns-in-Ok-clause-spacing g c =
    let program = c.args.program.now in
    let journal = c.args.journal.now in
    let count : length c.events.result.now ≡ length journal.events = ap length c.events.ensures.events in
    let stacks = c.stack_bytes-stacks.ensures.bytes ∙ ap (stack_bytes program) c.threads.ensures.threads in
    inl (λ s leads.
    let same : c.in-Ok.machine.state ≡ s = one_end program (start_of program journal.threads) c.in-Ok.machine.state s journal.events c.in-Ok.ensures.leads.runs leads.runs in
    let heap = c.heap_bytes.ensures.bytes ∙ ap (λ (u : State). heap_bytes u.objects) same in
    c.spacing_for.ensures.spacing
    ∙ ap (λ n. spacing_at n (c.stack_bytes-stacks.result + c.heap_bytes.result)) count
    ∙ ap (λ n. spacing_at (length journal.events) (n + c.heap_bytes.result)) stacks
    ∙ ap (λ n. spacing_at (length journal.events) (stack_bytes program journal.threads + n)) heap)

pub returns-in-Err-clause-spacing : goal.returns-in-Err-clause-spacing
returns-in-Err-clause-spacing g c =
    let program = c.args.program.now in
    let journal = c.args.journal.now in
    let belongs : (s : State) → LeadsTo program journal.threads journal.events s → IsJournal program journal.threads journal.events =
    λ s leads. record { verified = c.stack_bytes-stacks.ensures.verified; there = c.threads.ensures.log.there; end = s; leads = leads } in
    elim (refused_or_none c.in-Err.field-0 (λ same. c.in-Err.ensures.growth (ap Err same)) c.in-Err.ensures.only) [
      | inl refused ↦ inr (refl, refused)
      | inr none ↦ inl (λ s leads. absurd (none (belongs s leads)))
    ]
