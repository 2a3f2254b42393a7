use Rattle.std.proofs.Common.{◌≡◌, ◌<◌, ◌≤◌, ◌+◌, ℕ, get_or, vec_items, vec_len, vec_capacity}
use Rattle.std.specs.Vec.Iter.{into_iter_items, into_iter_len}
use Rattle.asl_runner.specs.Starting.{AreSeats}
use Rattle.asl_runner.proofs.starting.start_workers.Given as goal

abbrev pub invariant-loop-seat : goal.invariant-loop-seat
invariant-loop-seat g l =
    let rest = l.seat-iterator in
    (goal.iterator-loop-seat g).can_next rest × (goal.iterator-loop-seat g).is_finite rest
    × (vec_len l.handles ≡ l.worker) × (l.workers ≤ vec_capacity l.handles) × (l.worker + into_iter_len rest ≡ l.workers) × (l.workers ≤ 8)
    × AreSeats l.turns (into_iter_items rest)
    × ((k : ℕ) (d : _) → k < l.worker → ((get_or (vec_items l.handles) k d).promise.turns.now ≡ l.turns) × ((get_or (vec_items l.handles) k d).promise.post ≡ record { count = l.count; workers = l.workers; worker = k }))
