use Rattle.std.proofs.Common.{◌≡◌, ◌≤◌, ◌-◌, vec_len, vec_capacity}
use Rattle.asl_runner.specs.Starting.{AreSeats}
use Rattle.asl_runner.proofs.gathering.seats.Given as goal

abbrev pub invariant-loop : goal.invariant-loop
invariant-loop l =
    (vec_len l.seats ≡ l.counter) × (l.workers ≤ vec_capacity l.seats) × AreSeats l.turns l.seats.items
    × (l.seat ≡ record { of = l.turns; left = 64 - l.counter; spent = l.initial.seat.spent; tickets = l.initial.seat.tickets })
