use Rattle.std.proofs.Common.{ℕ, ◌≡◌, ◌<◌, List, [], take, slice_set, ap, sym, subst, ◌∙◌, refl, arith}
use Rattle.asl_lock_forest.specs.Holding.{Holding}
use Rattle.asl_lock_forest.specs.Lists.{holding_of}
use Rattle.asl_lock_queue.specs.Waiting.{Waiter}
use Rattle.asl_lock_queue.specs.QueueState.{QueueState}
use Rattle.asl_lock_queue.specs.Lines.{held_of, wanted_of, waiters_of, waiting_of}
use Rattle.asl_lock_queue.specs.Serving.{IsLineServed}
use Rattle.asl_lock_queue.proofs.ListFacts.{others}
use Rattle.asl_lock_queue.proofs.StateLaws.{served_by, sound_queue}
use Rattle.asl_lock_queue.proofs.SoundLaws.{lined_left, sound_served}
use Rattle.asl_lock_queue.proofs.queue.Queue.release.Goals as goal

pub serve-requires-clause-lined : goal.serve-requires-clause-lined
serve-requires-clause-lined c =
    let seats = c.self.inside.seats in
    let asked = c.requires.thread_there in
    let count = ap (λ q. q.threads) c.self.view_is in
    let left = c.leave.ensures in
    lined_left seats c.leave.new.self c.args.thread c.self.invariant (omega (arith, asked, count)) left.classes left.threads left.held left.wanted left.line

pub returns-clause-served : goal.returns-clause-served
returns-clause-served c =
    let seats = c.self.inside.seats in
    let t = c.args.thread in
    let asked = c.requires.thread_there in
    let count = ap (λ q. q.threads) c.self.view_is in
    let there : t < seats.threads = omega (arith, asked, count) in
    let left = c.leave.ensures in
    let new = c.serve.new.self in
    let numbers = take c.serve.result c.serve.new.named in
    let holders = held_of new in
    let wishes = wanted_of new in
    let line = new.line.items in
    let after : QueueState = record { classes = new.classes; threads = new.threads; room = new.room; holding = holding_of holders; waiting = waiters_of new } in
    let waiters : waiters_of c.leave.new.self ≡ waiting_of (slice_set (wanted_of seats) t []) (others t seats.line.items) =
    ap (λ w. waiting_of w c.leave.new.self.line.items) left.wanted ∙ ap (waiting_of (slice_set (wanted_of seats) t [])) left.line in
    served_by c.args.self.now after t c.self.invariant.lined there
    (sym (ap (λ q. q.holding) c.self.view_is)) (sym (ap (λ q. q.waiting) c.self.view_is)) refl refl
    (subst (λ n. IsLineServed n seats.threads (holding_of (slice_set (held_of seats) t [])) (waiting_of (slice_set (wanted_of seats) t []) (others t seats.line.items)) holders wishes line numbers) left.classes
    (subst (λ n. IsLineServed c.leave.new.self.classes n (holding_of (slice_set (held_of seats) t [])) (waiting_of (slice_set (wanted_of seats) t []) (others t seats.line.items)) holders wishes line numbers) left.threads
    (subst (λ (h : Holding). IsLineServed c.leave.new.self.classes c.leave.new.self.threads h (waiting_of (slice_set (wanted_of seats) t []) (others t seats.line.items)) holders wishes line numbers) (ap holding_of left.held)
    (subst (λ (w : List Waiter). IsLineServed c.leave.new.self.classes c.leave.new.self.threads (holding_of (held_of c.leave.new.self)) w holders wishes line numbers) waiters
    c.serve.ensures.served))))

pub returns-clause-queue : goal.returns-clause-queue
returns-clause-queue c =
    let served = c.serve.ensures in
    sound_queue c.serve.new.self
    (sound_served c.leave.new.self c.serve.new.self (holding_of (held_of c.leave.new.self)) (waiters_of c.leave.new.self) (take c.serve.result c.serve.new.named)
    served.served served.classes served.threads (served.wide (c.leave.ensures.wide c.self.invariant.room)))
