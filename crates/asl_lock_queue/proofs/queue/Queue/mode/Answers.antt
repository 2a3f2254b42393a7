use Rattle.std.proofs.Common.{[], ap, sym, subst, ◌∙◌, arith}
use Rattle.std.proofs.lemmas.List.{length-map}
use Rattle.asl_lock_forest.specs.Holding.{asked, held}
use Rattle.asl_lock_queue.specs.Lines.{held_of}
use Rattle.asl_lock_queue.specs.QueueState.{IsQueue}
use Rattle.asl_lock_queue.proofs.HoldingLists.{held_lists}
use Rattle.asl_lock_queue.proofs.SeatLaws.{own_at}
use Rattle.asl_lock_queue.proofs.StateLaws.{sound_queue}
use Rattle.asl_lock_queue.proofs.queue.Queue.mode.Goals as goal

pub returns-clause-value : goal.returns-clause-value
returns-clause-value c =
    let seats = c.self.inside.seats in
    let below = c.requires in
    let count = ap (λ q. q.threads) c.self.view_is in
    let lists = c.self.invariant.lined.held_there in
    let long = length-map seats.held.items (λ v. v.items) in
    c.listed.ensures
    ∙ ap (λ l. asked l c.args.node) (c.as_slice.ensures.value ∙ own_at (λ v. v.items) seats.held.items c.args.thread c.index.result.now [] (omega (arith, below, count, lists, long)) c.index.ensures)
    ∙ sym (held_lists (held_of seats) c.args.thread c.args.node)
    ∙ ap (λ q. held q.holding c.args.thread c.args.node) c.self.view_is

pub returns-clause-queue : goal.returns-clause-queue
returns-clause-queue c = subst IsQueue c.self.view_is (sound_queue c.self.inside.seats c.self.invariant)
