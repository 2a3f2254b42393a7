use Rattle.std.proofs.Common.{rules, inl, inr, sym, ap, ◌∙◌, arith, Vec, Global}
use Rattle.std.proofs.lemmas.List.{length-map}
use Rattle.asl_journal.specs.declared.event.Receipt.{Receipt}
use Rattle.asl_runner.specs.Ending.{all_receipts}
use Rattle.asl_runner.proofs.Ends.{have_ended, are_right, wrong_at}
use Rattle.asl_runner.proofs.Sizes.{as_many}
use Rattle.asl_runner.proofs.running.run.Goals as goal

pub returns-in-None-clause-history : goal.returns-in-None-clause-history
returns-in-None-clause-history g c =
    let ran = c.in-Ok-run_as.ensures.run in
    let report = c.in-Ok-run_as.report in
    let right = are_right c.args.workers report ran.dealers c.in-None.ensures in
    record {
      journal = rw (← c.in-Ok.ensures.image) ran.journal;
      dealt = record { count = ran.dealers; each = λ worker mine at. (right worker mine at).dealt };
    }

pub returns-in-None-clause-told : goal.returns-in-None-clause-told
returns-in-None-clause-told g c =
    let ran = c.in-Ok-run_as.ensures.run in
    let report = c.in-Ok-run_as.report in
    let right = are_right c.args.workers report ran.dealers c.in-None.ensures in
    λ worker mine at. (right worker mine at).said

pub returns-in-None-clause-leads : goal.returns-in-None-clause-leads
returns-in-None-clause-leads g c = rw (← c.in-Ok.ensures.image) c.in-Ok-run_as.ensures.run.leads

pub returns-in-None-clause-ends : goal.returns-in-None-clause-ends
returns-in-None-clause-ends g c = c.in-Ok-run_as.ensures.run.end

pub returns-in-None-clause-running : goal.returns-in-None-clause-running
returns-in-None-clause-running g c = c.in-Ok-run_as.ensures.run.running

pub returns-in-None-clause-tickets : goal.returns-in-None-clause-tickets
returns-in-None-clause-tickets g c =
    let ran = c.in-Ok-run_as.ensures.run in
    let report = c.in-Ok-run_as.report in
    let right = are_right c.args.workers report ran.dealers c.in-None.ensures in
    sym (as_many c.args.workers report.journal.events (all_receipts report) (search (c.if-workers-eq0.false, rules)) ran.dealers (λ worker mine at. (right worker mine at).dealt)) ∙ ran.receipts

pub returns-in-None-clause-end : goal.returns-in-None-clause-end
returns-in-None-clause-end g c =
    let ran = c.in-Ok-run_as.ensures.run in
    let report = c.in-Ok-run_as.report in
    let right = are_right c.args.workers report ran.dealers c.in-None.ensures in
    elim ran.end [
      | inl told ↦ inl (have_ended c.args.n c.args.workers report.machine.state (all_receipts report) (search (c.if-workers-eq0.false, rules)) ran.dealers (λ worker mine at. (right worker mine at).said) told)
      | inr all ↦ inr all
    ]

pub returns-in-Some-clause-refused : goal.returns-in-Some-clause-refused
returns-in-Some-clause-refused g c =
    let ran = c.in-Ok-run_as.ensures.run in (
      record {
        threads = (search (c.if-n-eq0.false, rules), search (c.if-n-threads.false, c.limits-threads.ensures.threads, rules));
        some = search (c.if-workers-eq0.false, rules);
        few = search (c.if-workers-gt-MAX_WORKERS.false, rules);
        short = search (c.if-limit-gt-MAX_STEPS.false, rules);
      },
      wrong_at c.args.program.now c.args.n c.args.workers c.args.limit c.in-Some.worker c.in-Ok-run_as.report (rw (← c.in-Ok.ensures.image) ran) c.in-Some.ensures.0 c.in-Some.ensures.1,
    )

pub wrong_worker-requires-clause-receipts : goal.wrong_worker-requires-clause-receipts
wrong_worker-requires-clause-receipts g c =
    let ran = c.in-Ok-run_as.ensures.run in
    let report = c.in-Ok-run_as.report in
    omega (arith, ran.dealers, length-map report.receipts.items (λ (m : Vec Receipt Global). m.items), report.receipts.ok.0)
