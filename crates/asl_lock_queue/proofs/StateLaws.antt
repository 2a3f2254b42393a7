-- A queue as contracts see it, by the lists that it is made of.
use Rattle.std.proofs.Common.{◌≡◌, ◌≢◌, ℕ, ◌<◌, ◌≤◌, vec_capacity, All, IsTrue, List, [], ◌∷◌, length, replicate, slice_index_or, slice_set, refl, ap, sym, subst, ◌∙◌, inl, inr, arith}
use Rattle.std.proofs.lemmas.List.{length-replicate}
use Rattle.std.proofs.lemmas.List.Elements.{All-nil, All-replicate}
use Rattle.asl_lock_forest.specs.Held.{IsForest}
use Rattle.asl_lock_forest.specs.declared.node.Node.{Node}
use Rattle.asl_lock_forest.specs.Holding.{Holding, held as holds_at, asked, Request, HoldsNothing, no_holding, release}
use Rattle.asl_lock_forest.specs.Lists.{holding_of}
use Rattle.asl_lock_forest.proofs.Lawful.{lawful_empty, within_empty}
use Rattle.asl_lock_queue.proofs.HoldingLists.{lists_released}
use Rattle.asl_lock_queue.proofs.HoldingLists.{nothing_listed, empty_at}
use Rattle.asl_lock_queue.specs.Order.{is_rising}
use Rattle.asl_lock_queue.specs.Waiting.{AreKept}
use Rattle.asl_lock_queue.specs.Served.{IsServed, IsDealt, granted, without}
use Rattle.asl_lock_queue.specs.QueueState.{QueueState, IsQueue, IsAskable}
use Rattle.asl_lock_queue.specs.declared.seats.Seats.{Seats}
use Rattle.asl_lock_queue.specs.Lines.{waiter, waiting_of, AreLined, held_of, wanted_of, waiters_of, IsSound}
use Rattle.asl_lock_queue.specs.Serving.{IsLineServed}
use Rattle.asl_lock_queue.proofs.ListFacts.{All-made, once_waits, others, out_others, waiting_others, waiting_set}
use Rattle.asl_lock_queue.proofs.HolderLaws.{empty_holds_nothing}

-- lists of a queue, in whose line nobody may go, are a queue
pub queue_of : {classes threads : ℕ} {held wanted : List Request} {line : List ℕ} (room : ℕ) → AreLined classes threads held wanted line
    → AreKept (holding_of held) [] (waiting_of wanted line)
    → IsQueue (record { classes = classes; threads = threads; room = room; holding = holding_of held; waiting = waiting_of wanted line })
queue_of {classes} {threads} {held} {wanted} {line} room lined kept = record {
  forest = lined.forest;
  threads_there = All-made (λ w. w.0 < threads) (waiter wanted) line lined.threads_there;
  idle = All-made (λ w. HoldsNothing (holding_of held) w.0) (waiter wanted) line (λ k d below. empty_holds_nothing held _ (lined.idle k d below));
  once = once_waits wanted line lined.once;
  askable = All-made (λ w. IsAskable classes w.1) (waiter wanted) line lined.askable;
  kept = kept;
}

abbrev none : Request
none = []

-- lists with nothing in them are those of an empty queue
pub lined_new : (classes threads : ℕ) (held wanted : List Request) → held ≡ replicate threads none → wanted ≡ replicate threads none
    → AreLined classes threads held wanted []
lined_new classes threads held wanted held_is wanted_is = record {
  forest = subst (λ h. IsForest (record { classes = classes; threads = threads; holding = h })) (sym (nothing_listed threads held held_is))
      (record { lawful = lawful_empty; within = within_empty classes threads });
  held_there = ap length held_is ∙ length-replicate threads none;
  wanted_there = ap length wanted_is ∙ length-replicate threads none;
  rising = subst (λ l. All (λ r. IsTrue (is_rising r)) l) (sym held_is) (All-replicate (λ r. IsTrue (is_rising r)) threads none refl);
  threads_there = All-nil _;
  idle = All-nil _;
  once = tt;
  askable = All-nil _;
  unasked = λ t out. ap (λ l. slice_index_or l t none) wanted_is ∙ empty_at threads t;
}

-- a thread leaves, and the line is served: so is the queue
pub served_by : {classes threads : ℕ} {held wanted : List Request} {line : List ℕ} {new_held new_wanted : List Request} {new_line : List ℕ} {names : List ℕ}
    (old new : QueueState) (t : ℕ) → AreLined classes threads held wanted line → t < threads
    → old.holding ≡ holding_of held → old.waiting ≡ waiting_of wanted line → new.holding ≡ holding_of new_held → new.waiting ≡ waiting_of new_wanted new_line
    → IsLineServed classes threads (holding_of (slice_set held t [])) (waiting_of (slice_set wanted t []) (others t line)) new_held new_wanted new_line names
    → IsServed old t names new
served_by {classes} {threads} {held} {wanted} {line} old new t lined there was waited is waits served =
    let within : t < length held = let n = lined.held_there in omega (arith, there, n) in
    let left : waiting_of (slice_set wanted t []) (others t line) ≡ without t old.waiting =
    waiting_set wanted t [] (others t line) (out_others t line) ∙ sym (waiting_others wanted t line) ∙ ap (without t) (sym waited) in
    let first : holding_of (slice_set held t []) ≡ release old.holding t = lists_released held t within ∙ ap (λ h. release h t) (sym was) in
    record {
      going = served.going;
      names = served.names;
      dealt = subst (λ l. IsDealt [] l new.waiting served.going) left (subst (λ l. IsDealt [] (waiting_of (slice_set wanted t []) (others t line)) l served.going) (sym waits) served.dealt);
      holding = is ∙ served.holding ∙ ap (λ h. granted h served.going) first;
      holds = subst (λ h. All (λ w. (node : Node) → holds_at h w.0 node ≡ asked w.1 node) served.going) (sym is) served.holds;
    }

pub sound_queue : (seats : Seats) → IsSound seats
    → IsQueue (record { classes = seats.classes; threads = seats.threads; room = seats.room; holding = holding_of (held_of seats); waiting = waiters_of seats })
sound_queue seats sound = queue_of seats.room sound.lined sound.kept

-- with nothing in the lists, and nobody in the line, the fields are sound
pub sound_new : (seats : Seats) → held_of seats ≡ replicate seats.threads none → wanted_of seats ≡ replicate seats.threads none → seats.line.items ≡ []
    → seats.room ≡ 0 → seats.threads ≤ vec_capacity seats.line → IsSound seats
sound_new seats held_is wanted_is nobody room wide = record {
  lined = subst (AreLined seats.classes seats.threads (held_of seats) (wanted_of seats)) (sym nobody)
      (lined_new seats.classes seats.threads (held_of seats) (wanted_of seats) held_is wanted_is);
  kept = subst (λ l. AreKept (holding_of (held_of seats)) [] (waiting_of (wanted_of seats) l)) (sym nobody) tt;
  room = record { held = λ k d below. omega (arith, room); wanted = λ k d below. omega (arith, room); line = wide };
}
