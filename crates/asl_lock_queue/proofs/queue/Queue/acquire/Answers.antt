use Rattle.std.proofs.Common.{rules, ◌≡◌, ◌<◌, ◌≤◌, [], ◌∷◌, ◌++◌, if◌then◌else◌, length, refl, ap, sym, subst, ◌∙◌, arith}
use Rattle.std.proofs.lemmas.List.{take_all}
use Rattle.asl_lock_forest.specs.Holding.{HoldsNothing, CanGrant, grant}
use Rattle.asl_lock_forest.specs.Lists.{holding_of}
use Rattle.asl_lock_queue.specs.Waiting.{IsAbsent, IsKept}
use Rattle.asl_lock_queue.specs.QueueState.{IsAskable}
use Rattle.asl_lock_queue.specs.Lines.{held_of, wanted_of, waiters_of, waiting_of}
use Rattle.asl_lock_queue.proofs.HolderLaws.{nothing_empty_list}
use Rattle.asl_lock_queue.proofs.ListFacts.{absent_out}
use Rattle.asl_lock_queue.proofs.StateLaws.{sound_queue}
use Rattle.asl_lock_queue.proofs.SoundLaws.{grants, sound_taken, joins, sound_joined, place_left}
use Rattle.asl_lock_queue.proofs.queue.Queue.acquire.Goals as goal

pub take-requires-clause-nothing : goal.take-requires-clause-nothing
take-requires-clause-nothing c =
    let seats = c.self.inside.seats in
    let t = c.args.thread in
    nothing_empty_list (held_of seats) t (subst (λ q. HoldsNothing q.holding t) (sym c.self.view_is) c.requires.nothing_held)

pub invariant_of-self : goal.invariant_of-self
invariant_of-self c =
    let seats = c.self.inside.seats in
    let t = c.args.thread in
    let r = c.args.request.now.items in
    let asked = c.requires.thread_there in
    let count = ap (λ q. q.threads) c.self.view_is in
    let there : t < seats.threads = omega (arith, asked, count) in
    let empty = nothing_empty_list (held_of seats) t (subst (λ q. HoldsNothing q.holding t) (sym c.self.view_is) c.requires.nothing_held) in
    let out = absent_out (wanted_of seats) t seats.line.items (subst (λ q. IsAbsent t q.waiting) (sym c.self.view_is) c.requires.not_waiting) in
    let askable = subst (λ q. IsAskable q.classes r) (sym c.self.view_is) c.requires.askable in
    let free = subst (CanGrant (holding_of (held_of seats)) t) c.as_slice.ensures.value (c.if-goes.ensures.goes refl).holders in
    let took = c.take.ensures in
    sound_taken seats c.take.new.self t r c.self.invariant there empty out askable free took.classes took.threads took.held took.wanted took.line (took.wide c.self.invariant.room)

pub join-requires-clause-nothing : goal.join-requires-clause-nothing
join-requires-clause-nothing c =
    let seats = c.self.inside.seats in
    let t = c.args.thread in
    c.self.invariant.lined.unasked t (absent_out (wanted_of seats) t seats.line.items (subst (λ q. IsAbsent t q.waiting) (sym c.self.view_is) c.requires.not_waiting))

pub join-requires-clause-place : goal.join-requires-clause-place
join-requires-clause-place c =
    let seats = c.self.inside.seats in
    let t = c.args.thread in
    let r = c.args.request.now.items in
    let asked = c.requires.thread_there in
    let count = ap (λ q. q.threads) c.self.view_is in
    let there : t < seats.threads = omega (arith, asked, count) in
    let empty = nothing_empty_list (held_of seats) t (subst (λ q. HoldsNothing q.holding t) (sym c.self.view_is) c.requires.nothing_held) in
    let out = absent_out (wanted_of seats) t seats.line.items (subst (λ q. IsAbsent t q.waiting) (sym c.self.view_is) c.requires.not_waiting) in
    place_left seats seats t r c.self.invariant there empty out

pub invariant_of-self-else-goes : goal.invariant_of-self-else-goes
invariant_of-self-else-goes c =
    let seats = c.self.inside.seats in
    let t = c.args.thread in
    let r = c.args.request.now.items in
    let asked = c.requires.thread_there in
    let count = ap (λ q. q.threads) c.self.view_is in
    let there : t < seats.threads = omega (arith, asked, count) in
    let empty = nothing_empty_list (held_of seats) t (subst (λ q. HoldsNothing q.holding t) (sym c.self.view_is) c.requires.nothing_held) in
    let out = absent_out (wanted_of seats) t seats.line.items (subst (λ q. IsAbsent t q.waiting) (sym c.self.view_is) c.requires.not_waiting) in
    let askable = subst (λ q. IsAskable q.classes r) (sym c.self.view_is) c.requires.askable in
    let all : length seats.line.items ≤ c.len-ahead.result = search rules in
    let kept = subst (IsKept (holding_of (held_of seats)) (waiters_of seats) t) c.as_slice.ensures.value
    (subst (λ l. IsKept (holding_of (held_of seats)) (waiting_of (wanted_of seats) l) t c.as_slice.result.now) (take_all c.len-ahead.result seats.line.items all) (c.if-goes.ensures.kept refl)) in
    let joined = c.join.ensures in
    sound_joined seats c.join.new.self t r c.self.invariant there empty out askable kept joined.classes joined.threads joined.held joined.wanted joined.line (joined.wide c.self.invariant.room)

pub returns-then-goes-clause-holding : goal.returns-then-goes-clause-holding
returns-then-goes-clause-holding c =
    let seats = c.self.inside.seats in
    let t = c.args.thread in
    let r = c.args.request.now.items in
    let asked = c.requires.thread_there in
    let count = ap (λ q. q.threads) c.self.view_is in
    let there : t < seats.threads = omega (arith, asked, count) in
    let empty = nothing_empty_list (held_of seats) t (subst (λ q. HoldsNothing q.holding t) (sym c.self.view_is) c.requires.nothing_held) in
    let out = absent_out (wanted_of seats) t seats.line.items (subst (λ q. IsAbsent t q.waiting) (sym c.self.view_is) c.requires.not_waiting) in
    grants seats c.take.new.self t r c.self.invariant there empty out c.take.ensures.held
    ∙ ap (λ q. grant q.holding t r) c.self.view_is
    ∙ sym (ap (λ b. if b then grant c.args.self.now.holding t r else c.args.self.now.holding) c.if-goes.true)

pub returns-then-goes-clause-queue : goal.returns-then-goes-clause-queue
returns-then-goes-clause-queue c =
    let seats = c.self.inside.seats in
    let t = c.args.thread in
    let r = c.args.request.now.items in
    let asked = c.requires.thread_there in
    let count = ap (λ q. q.threads) c.self.view_is in
    let there : t < seats.threads = omega (arith, asked, count) in
    let empty = nothing_empty_list (held_of seats) t (subst (λ q. HoldsNothing q.holding t) (sym c.self.view_is) c.requires.nothing_held) in
    let out = absent_out (wanted_of seats) t seats.line.items (subst (λ q. IsAbsent t q.waiting) (sym c.self.view_is) c.requires.not_waiting) in
    let askable = subst (λ q. IsAskable q.classes r) (sym c.self.view_is) c.requires.askable in
    let free = subst (CanGrant (holding_of (held_of seats)) t) c.as_slice.ensures.value (c.if-goes.ensures.goes refl).holders in
    let took = c.take.ensures in
    sound_queue c.take.new.self (sound_taken seats c.take.new.self t r c.self.invariant there empty out askable free took.classes took.threads took.held took.wanted took.line (took.wide c.self.invariant.room))

pub returns-else-goes-clause-kept : goal.returns-else-goes-clause-kept
returns-else-goes-clause-kept c _ =
    let seats = c.self.inside.seats in
    let t = c.args.thread in
    let r = c.args.request.now.items in
    let all : length seats.line.items ≤ c.len-ahead.result = search rules in
    let kept = subst (IsKept (holding_of (held_of seats)) (waiters_of seats) t) c.as_slice.ensures.value
    (subst (λ l. IsKept (holding_of (held_of seats)) (waiting_of (wanted_of seats) l) t c.as_slice.result.now) (take_all c.len-ahead.result seats.line.items all) (c.if-goes.ensures.kept refl)) in
    subst (λ q. IsKept q.holding q.waiting t r) c.self.view_is kept

pub returns-else-goes-clause-waiting : goal.returns-else-goes-clause-waiting
returns-else-goes-clause-waiting c =
    let seats = c.self.inside.seats in
    let t = c.args.thread in
    let r = c.args.request.now.items in
    let asked = c.requires.thread_there in
    let count = ap (λ q. q.threads) c.self.view_is in
    let there : t < seats.threads = omega (arith, asked, count) in
    let empty = nothing_empty_list (held_of seats) t (subst (λ q. HoldsNothing q.holding t) (sym c.self.view_is) c.requires.nothing_held) in
    let out = absent_out (wanted_of seats) t seats.line.items (subst (λ q. IsAbsent t q.waiting) (sym c.self.view_is) c.requires.not_waiting) in
    joins seats c.join.new.self t r c.self.invariant there empty out c.join.ensures.wanted c.join.ensures.line
    ∙ ap (λ q. q.waiting ++ (t, r) ∷ []) c.self.view_is
    ∙ sym (ap (λ b. if b then c.args.self.now.waiting else (c.args.self.now.waiting ++ (t, r) ∷ [])) c.if-goes.false)

pub returns-else-goes-clause-queue : goal.returns-else-goes-clause-queue
returns-else-goes-clause-queue c =
    let seats = c.self.inside.seats in
    let t = c.args.thread in
    let r = c.args.request.now.items in
    let asked = c.requires.thread_there in
    let count = ap (λ q. q.threads) c.self.view_is in
    let there : t < seats.threads = omega (arith, asked, count) in
    let empty = nothing_empty_list (held_of seats) t (subst (λ q. HoldsNothing q.holding t) (sym c.self.view_is) c.requires.nothing_held) in
    let out = absent_out (wanted_of seats) t seats.line.items (subst (λ q. IsAbsent t q.waiting) (sym c.self.view_is) c.requires.not_waiting) in
    let askable = subst (λ q. IsAskable q.classes r) (sym c.self.view_is) c.requires.askable in
    let all : length seats.line.items ≤ c.len-ahead.result = search rules in
    let kept = subst (IsKept (holding_of (held_of seats)) (waiters_of seats) t) c.as_slice.ensures.value
    (subst (λ l. IsKept (holding_of (held_of seats)) (waiting_of (wanted_of seats) l) t c.as_slice.result.now) (take_all c.len-ahead.result seats.line.items all) (c.if-goes.ensures.kept refl)) in
    let joined = c.join.ensures in
    sound_queue c.join.new.self (sound_joined seats c.join.new.self t r c.self.invariant there empty out askable kept joined.classes joined.threads joined.held joined.wanted joined.line (joined.wide c.self.invariant.room))
