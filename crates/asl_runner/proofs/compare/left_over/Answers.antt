use Rattle.std.proofs.Common.{◌≡◌, ◌∙◌, ap, sym, arith, inl, inr, get_or, length}
use Rattle.std.proofs.lemmas.Bool.{cases_eq}
use Rattle.asl_runner.proofs.Dealing.{all_right, some_left, number_of_its}
use Rattle.asl_runner.proofs.compare.left_over.Goals as goal

pub returns-then-next-from : goal.returns-then-next-from
returns-then-next-from c =
    let worker = c.loop-worker.worker in
    let lt = c.loop-worker-test.true in (
      lt,
      λ mine there.
          let size = number_of_its c.args.report.now.receipts.items worker c.from-in-loop-worker.result c.index.result.now mine c.from-in-loop-worker.ensures c.index.ensures there in
          let all : length c.index.result.now.items ≡ c.len.result = omega (arith, c.len.ensures, c.index.result.now.ok.0) in
          some_left c.args.workers worker c.args.report.now.machine.state c.args.report.now.journal.events mine.items (get_or c.args.next.now worker 0)
          (λ same. c.if-next-from.true (ap (λ n. get_or c.args.next.now n 0) c.from.ensures ∙ same ∙ sym size ∙ all))
          (c.requires.come worker mine lt there),
    )

pub loop-worker-preserved : goal.loop-worker-preserved
loop-worker-preserved c worker mine lt there =
    elim (cases_eq worker c.loop-worker.worker) [
      | inl same ↦
          (let size = number_of_its c.args.report.now.receipts.items worker c.from-in-loop-worker.result c.index.result.now mine (c.from-in-loop-worker.ensures ∙ sym same) c.index.ensures there in
          let all : length c.index.result.now.items ≡ c.len.result = omega (arith, c.len.ensures, c.index.result.now.ok.0) in
          ap (λ n. get_or c.args.next.now n 0) (same ∙ sym c.from.ensures) ∙ c.if-next-from.false ∙ sym all ∙ size)
      | inr other ↦ c.loop-worker.invariant worker mine (omega (arith, lt, other)) there
    ]

pub returns : goal.returns
returns c worker mine lt there =
    all_right c.args.workers worker c.args.report.now.machine.state c.args.report.now.journal.events mine.items (get_or c.args.next.now worker 0)
    (c.loop-worker.invariant worker mine (omega (arith, lt, c.loop-worker-test.false)) there) (c.requires.come worker mine lt there)
