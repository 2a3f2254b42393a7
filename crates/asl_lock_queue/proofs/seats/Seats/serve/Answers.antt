use Rattle.std.proofs.Common.{rules, ℕ, ◌≡◌, ◌<◌, ◌≤◌, ◌+◌, List, [], ◌∷◌, IsTrue, length, get_or, take, drop, slice_index_or, refl, ap, sym, subst, ◌∙◌, arith}
use Rattle.std.proofs.lemmas.List.{length-map, length-set, take_more_set, drop-set-lt, drop_all, take_all}
use Rattle.asl_lock_forest.specs.Lists.{holding_of}
use Rattle.asl_lock_queue.specs.Order.{is_rising}
use Rattle.asl_lock_queue.specs.QueueState.{IsAskable}
use Rattle.asl_lock_queue.specs.Waiting.{MayGo, IsKept}
use Rattle.asl_lock_queue.specs.Lines.{held_of, wanted_of, waiters_of, waiting_of}
use Rattle.asl_lock_queue.specs.Serving.{IsServing, IsLineServed}
use Rattle.asl_lock_queue.proofs.ListFacts.{All-middle, short_line}
use Rattle.asl_lock_queue.proofs.SeatLaws.{own_at, asks_at}
use Rattle.asl_lock_queue.proofs.ServingFacts.{back_at, front_at_next, front_left, back_left, length_left, drop_next, serving_same}
use Rattle.asl_lock_queue.proofs.ServingLaws.{serving_first, serving_stays, serving_goes, serving_last}
use Rattle.asl_lock_queue.proofs.seats.Seats.serve.Goals as goal

pub loop-place-init : goal.loop-place-init
loop-place-init c =
    let old = c.args.self.now in
    let short = short_line old.threads old.line.items c.requires.lined.once c.requires.lined.threads_there in
    record {
      serving = serving_first (held_of old) (wanted_of old) old.line.items c.requires.lined refl refl;
      within = omega arith;
      few = omega (arith, short);
      long = c.requires.room;
      rest = refl;
      classes = refl;
      threads = refl;
      room = refl;
      wide = λ wide. wide;
    }

pub may_go-requires-clause-rises : goal.may_go-requires-clause-rises
may_go-requires-clause-rises c =
    let seats = c.loop-place.self in
    let line = seats.line.items in
    let place = c.loop-place.place in
    let t = c.index-thread.result.now in
    let there : place < length line = search rules in
    let line_back : IsServing seats.classes seats.threads (holding_of (held_of c.args.self.now)) (waiters_of c.args.self.now) (held_of seats) (wanted_of seats) (take place line) (t ∷ drop (place + 1) line) (take c.loop-place.count c.loop-place.named) =
    subst (λ b. IsServing seats.classes seats.threads (holding_of (held_of c.args.self.now)) (waiters_of c.args.self.now) (held_of seats) (wanted_of seats) (take place line) b (take c.loop-place.count c.loop-place.named))
    (back_at line place t there c.index-thread.ensures) c.loop-place.invariant.serving in
    let asks = asks_at (take place line) (drop (place + 1) line) seats.wanted.items (λ v. v.items) line_back.lined in
    subst (λ l. IsTrue (is_rising l)) (sym (c.as_slice.ensures.value ∙ own_at (λ v. v.items) seats.wanted.items t c.index.result.now [] asks c.index.ensures))
    (All-middle (λ u. IsAskable seats.classes (slice_index_or (wanted_of seats) u [])) (take place line) t (drop (place + 1) line) line_back.lined.askable).0.rising

pub loop-place-preserved-then-may_go : goal.loop-place-preserved-then-may_go
loop-place-preserved-then-may_go c =
    let seats = c.loop-place.self in
    let line = seats.line.items in
    let place = c.loop-place.place in
    let count = c.loop-place.count in
    let t = c.index-thread.result.now in
    let named = c.loop-place.named in
    let there : place < length line = search rules in
    let line_back : IsServing seats.classes seats.threads (holding_of (held_of c.args.self.now)) (waiters_of c.args.self.now) (held_of seats) (wanted_of seats) (take place line) (t ∷ drop (place + 1) line) (take c.loop-place.count c.loop-place.named) =
    subst (λ b. IsServing seats.classes seats.threads (holding_of (held_of c.args.self.now)) (waiters_of c.args.self.now) (held_of seats) (wanted_of seats) (take place line) b (take c.loop-place.count c.loop-place.named))
    (back_at line place t there c.index-thread.ensures) c.loop-place.invariant.serving in
    let asks = asks_at (take place line) (drop (place + 1) line) seats.wanted.items (λ v. v.items) line_back.lined in
    let inv = c.loop-place.invariant in
    let went = c.let_go.ensures in
    let back = drop (place + 1) line in
    let within : place ≤ length line = omega (arith, there) in
    let own = c.as_slice.ensures.value ∙ own_at (λ v. v.items) seats.wanted.items t c.index.result.now [] asks c.index.ensures in
    let may : MayGo (holding_of (held_of seats)) (waiting_of (wanted_of seats) (take place line)) t (slice_index_or (wanted_of seats) t []) =
    subst (MayGo (holding_of (held_of seats)) (waiting_of (wanted_of seats) (take place line)) t) own (c.if-may_go.ensures.goes refl) in
    let few = inv.few in
    let long = inv.long in
    let rest = inv.rest in
    let threads = went.threads in
    let shorter = length_left line place there in
    let new_long = ap length went.line in
    let room : count < length named = omega (arith, there, few, long) in
    let same_long = length-set named count t in
    record {
      serving = serving_same went.classes went.threads went.held went.wanted (ap (take place) went.line ∙ front_left line back place within)
          (ap (drop place) went.line ∙ back_left line back place within) (take_more_set named count t room) (serving_goes line_back may);
      within = omega (arith, there, shorter, new_long);
      few = omega (arith, few, threads, shorter, new_long);
      long = omega (arith, long, threads, same_long);
      rest = drop-set-lt (count + 1) named count t (omega arith) ∙ drop_next count named ∙ ap (drop 1) rest ∙ sym (drop_next count c.args.named.now);
      classes = went.classes ∙ inv.classes;
      threads = went.threads ∙ inv.threads;
      room = went.room ∙ inv.room;
      wide = λ wide. went.wide (inv.wide wide);
    }

pub loop-place-preserved : goal.loop-place-preserved
loop-place-preserved c =
    let seats = c.loop-place.self in
    let line = seats.line.items in
    let place = c.loop-place.place in
    let count = c.loop-place.count in
    let t = c.index-thread.result.now in
    let named = c.loop-place.named in
    let there : place < length line = search rules in
    let line_back : IsServing seats.classes seats.threads (holding_of (held_of c.args.self.now)) (waiters_of c.args.self.now) (held_of seats) (wanted_of seats) (take place line) (t ∷ drop (place + 1) line) (take c.loop-place.count c.loop-place.named) =
    subst (λ b. IsServing seats.classes seats.threads (holding_of (held_of c.args.self.now)) (waiters_of c.args.self.now) (held_of seats) (wanted_of seats) (take place line) b (take c.loop-place.count c.loop-place.named))
    (back_at line place t there c.index-thread.ensures) c.loop-place.invariant.serving in
    let asks = asks_at (take place line) (drop (place + 1) line) seats.wanted.items (λ v. v.items) line_back.lined in
    let inv = c.loop-place.invariant in
    let own = c.as_slice.ensures.value ∙ own_at (λ v. v.items) seats.wanted.items t c.index.result.now [] asks c.index.ensures in
    let kept : IsKept (holding_of (held_of seats)) (waiting_of (wanted_of seats) (take place line)) t (slice_index_or (wanted_of seats) t []) =
    subst (IsKept (holding_of (held_of seats)) (waiting_of (wanted_of seats) (take place line)) t) own (c.if-may_go.ensures.kept refl) in
    record {
      serving = serving_same refl refl refl refl (front_at_next line place t there c.index-thread.ensures) refl refl (serving_stays line_back kept);
      within = omega (arith, there);
      few = inv.few;
      long = inv.long;
      rest = inv.rest;
      classes = inv.classes;
      threads = inv.threads;
      room = inv.room;
      wide = inv.wide;
    }

pub returns-clause-served : goal.returns-clause-served
returns-clause-served c =
    let seats = c.loop-place.self in
    let line = seats.line.items in
    let place = c.loop-place.place in
    let inv = c.loop-place.invariant in
    let all : length line ≤ place = search rules in
    let first = holding_of (held_of c.args.self.now) in
    let waiters = waiters_of c.args.self.now in
    let numbers = take c.loop-place.count c.loop-place.named in
    subst (λ n. IsLineServed n c.args.self.now.threads first waiters (held_of seats) (wanted_of seats) line numbers) inv.classes
    (subst (λ n. IsLineServed seats.classes n first waiters (held_of seats) (wanted_of seats) line numbers) inv.threads
    (subst (λ l. IsLineServed seats.classes seats.threads first waiters (held_of seats) (wanted_of seats) l numbers) (take_all place line all)
    (serving_last inv.serving (drop_all place line all))))
