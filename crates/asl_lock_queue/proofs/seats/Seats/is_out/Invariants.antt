use Rattle.std.proofs.Common.{◌≡◌, ◌==◌, not, drop}
use Rattle.std.specs.List.{list_all}
use Rattle.asl_lock_queue.proofs.seats.Seats.is_out.Given as goal

abbrev pub invariant-loop-other : goal.invariant-loop-other
invariant-loop-other l = list_all (λ u. not (u == l.thread)) (drop l.other-index l.self.line.items) ≡ list_all (λ u. not (u == l.thread)) l.self.line.items
