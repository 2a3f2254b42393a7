use Rattle.std.proofs.Common.{refl}
use Rattle.asl_lock_queue.specs.declared.seats.Seats.{Seats}
use Rattle.asl_lock_queue.proofs.HoldingLists.{nothing_listed}
use Rattle.asl_lock_queue.proofs.StateLaws.{sound_new, sound_queue}
use Rattle.asl_lock_queue.proofs.queue.Queue.new.Goals as goal

pub invariant_of-result : goal.invariant_of-result
invariant_of-result c =
    let seats : Seats = record { classes = c.args.classes; threads = c.args.threads; room = 0; held = c.in_ok-held.held; wanted = c.in_ok-wanted.wanted; line = c.in_ok-line.line } in
    sound_new seats c.in_ok-held.ensures c.in_ok-wanted.ensures c.in_ok-line.ensures.items refl c.in_ok-line.ensures.capacity

pub returns-clause-holding : goal.returns-clause-holding
returns-clause-holding c = nothing_listed c.args.threads _ c.in_ok-held.ensures

pub returns-clause-queue : goal.returns-clause-queue
returns-clause-queue c =
    let seats : Seats = record { classes = c.args.classes; threads = c.args.threads; room = 0; held = c.in_ok-held.held; wanted = c.in_ok-wanted.wanted; line = c.in_ok-line.line } in
    sound_queue seats (sound_new seats c.in_ok-held.ensures c.in_ok-wanted.ensures c.in_ok-line.ensures.items refl c.in_ok-line.ensures.capacity)
