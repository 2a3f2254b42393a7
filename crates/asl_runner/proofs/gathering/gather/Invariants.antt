use Rattle.std.proofs.Common.{◌≡◌, ◌+◌, ◌≤◌, true, false, map, vec_len, vec_capacity}
use Rattle.std.specs.Vec.Iter.{into_iter_items, into_iter_len}
use Rattle.asl_runner.specs.Working.{AreJoined}
use Rattle.asl_runner.specs.Starting.{IsOneRefused}
use Rattle.asl_runner.proofs.Joins.{AreFrom, HaveWorkedFrom}
use Rattle.asl_runner.proofs.gathering.gather.Given as goal

abbrev pub invariant-loop-work : goal.invariant-loop-work
invariant-loop-work l =
    let done = vec_len l.receipts in let rest = l.work-iterator in
    (goal.iterator-loop-work).can_next rest × (goal.iterator-loop-work).is_finite rest
    × (done + into_iter_len rest ≡ vec_len l.fn.works) × (vec_len l.fn.works ≤ vec_capacity l.receipts)
    × (l.seat.of ≡ l.turns) × (l.seat.left + l.seat.spent + into_iter_len rest ≡ 64)
    × HaveWorkedFrom l.turns l.fn.count (vec_len l.fn.works) done (into_iter_items rest)
    × (l.refused ≡ false → AreJoined l.fn.count (vec_len l.fn.works) l.seat (map (λ mine. mine.items) l.receipts.items))
    × AreFrom done l.fn.works.items (into_iter_items rest)
    × (l.refused ≡ true → IsOneRefused l.fn.works.items)
