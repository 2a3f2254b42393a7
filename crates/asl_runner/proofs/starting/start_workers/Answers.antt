use Rattle.std.proofs.Common.{rules, arith, ◌≡◌, ◌+◌, suc, inl, inr, length, ap, ◌∙◌}
use Rattle.std.proofs.Math.Numerals.{add-one}
use Rattle.std.specs.Vec.Iter.{into_iter_items}
use Rattle.std.specs.Prelude.{List, slice_get}
use Rattle.asl_turns.specs.Turn.{Turn}
use Rattle.asl_runner.proofs.Promises.{pushed_or}
use Rattle.asl_runner.proofs.starting.start_workers.Goals as goal

pub start_worker-requires-clause-at : goal.start_worker-requires-clause-at
start_worker-requires-clause-at g c κs within = record { threads = c.requires.threads; mine = omega (arith, c.loop-seat.invariant.4, c.in-Some.ensures.steps.1); few = c.loop-seat.invariant.5 }

pub start_worker-requires-clause-seat : goal.start_worker-requires-clause-seat
start_worker-requires-clause-seat g c κs within = c.loop-seat.invariant.6 0 c.in-Some.seat (ap (λ (seats : List Turn). slice_get seats 0) c.in-Some.ensures.steps.0)

pub loop-seat-preserved : goal.loop-seat-preserved
loop-seat-preserved g c =
    let inv = c.loop-seat.invariant in
    let steps = c.in-Some.ensures.steps in
    let pushed = c.push_reserved.ensures in
    let old : length c.loop-seat.handles.items ≡ c.loop-seat.worker = search rules in
    let all = into_iter_items c.loop-seat.seat-iterator in (
      tt,
      tt,
      search rules,
      search rules,
      omega (arith, inv.4, steps.1),
      inv.5,
      (λ k seat at. inv.6 (k + 1) seat (ap (λ n. slice_get all n) (add-one k) ∙ ap (λ (seats : List Turn). slice_get seats (suc k)) steps.0 ∙ at)),
      (λ k d lt. elim (pushed_or c.loop-seat.handles.items c.push_reserved.new.self.items c.in_ok-handle.handle d k c.loop-seat.worker pushed.items old lt) [
        | inl before ↦ rw before.1 (inv.7 k d before.0)
        | inr last ↦ rw (last.1, last.0) (c.in_ok-handle.ensures.turns, c.in_ok-handle.ensures.post)
      ]),
    )
