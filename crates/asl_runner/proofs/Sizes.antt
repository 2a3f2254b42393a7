-- All workers' entries together are as many as the events.
use Rattle.std.proofs.Common.{◌≡◌, ◌≢◌, inl, inr, ℕ, zero, suc, ◌+◌, ◌<◌, ◌≤◌, ◌%◌, ◌==◌, true, false, List, [], ◌∷◌, length, Some, slice_get, refl, ap, sym, ◌∙◌, cond, arith}
use Rattle.std.proofs.Math.Nat.{add-zero, zero-add, mod-lt}
use Rattle.std.proofs.lemmas.Bool.{cases_eq}
use Rattle.std.proofs.lemmas.Bool.Decides.{nat_tests}
use Rattle.std.proofs.lemmas.List.{length-map}
use Rattle.std.proofs.lemmas.List.Sums.{sum_by-cons}
use Rattle.asl_journal.specs.declared.event.Event.{Event}
use Rattle.asl_journal.specs.declared.event.Receipt.{Receipt}
use Rattle.asl_runner.specs.History.{Entry, entry, entry_of, entries_of, IsDealt}
use Rattle.asl_runner.specs.Ending.{receipts_in}

-- how many entries so many workers have, from the first on
abbrev sizes : ℕ → ℕ → ℕ → ℕ → List Event → ℕ
sizes workers first zero index events = 0
sizes workers first (suc n) index events = length (entries_of workers first index events) + sizes workers (suc first) n index events

-- a worker has one entry more where the event is of one of its threads
hit : (workers worker index : ℕ) (e : Event) (es : List Event) → (e.thread % workers) ≡ worker → length (entries_of workers worker index (e ∷ es)) ≡ length (entries_of workers worker (index + 1) es) + 1
hit workers worker index e es is =
    let test : ((e.thread % workers) == worker) ≡ true = grind (arith, nat_tests, is) in
    let step = ap (λ b. length (cond b (entry index e.thread e.reply ∷ entries_of workers worker (index + 1) es) (entries_of workers worker (index + 1) es))) test in
    omega (arith, step)

miss : (workers worker index : ℕ) (e : Event) (es : List Event) → (e.thread % workers) ≢ worker → length (entries_of workers worker index (e ∷ es)) ≡ length (entries_of workers worker (index + 1) es)
miss workers worker index e es is =
    let test : ((e.thread % workers) == worker) ≡ false = grind (arith, nat_tests, is) in
    ap (λ b. length (cond b (entry index e.thread e.reply ∷ entries_of workers worker (index + 1) es) (entries_of workers worker (index + 1) es))) test

none_more : (workers first n index : ℕ) (e : Event) (es : List Event) → (e.thread % workers) < first → sizes workers first n index (e ∷ es) ≡ sizes workers first n (index + 1) es
none_more workers first zero index e es lt = refl
none_more workers first (suc n) index e es lt =
    let here = miss workers first index e es (λ is. absurd (omega (arith, lt, is))) in
    let there = none_more workers (suc first) n index e es (omega (arith, lt)) in
    omega (arith, here, there)

one_more : (workers first n index : ℕ) (e : Event) (es : List Event) → first ≤ (e.thread % workers) → (e.thread % workers) < first + n → sizes workers first n index (e ∷ es) ≡ sizes workers first n (index + 1) es + 1
one_more workers first zero index e es le lt = absurd (omega (arith, le, lt))
one_more workers first (suc n) index e es le lt =
    elim (cases_eq (e.thread % workers) first) [
      | inl is ↦
          (let here = hit workers first index e es is in
          let there = none_more workers (suc first) n index e es (omega (arith, is)) in
          omega (arith, here, there))
      | inr other ↦
          (let here = miss workers first index e es other in
          let there = one_more workers (suc first) n index e es (omega (arith, le, other)) (omega (arith, lt)) in
          omega (arith, here, there))
    ]

no_events : (workers first n index : ℕ) → sizes workers first n index [] ≡ 0
no_events workers first zero index = refl
no_events workers first (suc n) index = omega (arith, no_events workers (suc first) n index)

all_events : (workers index : ℕ) (es : List Event) → 0 < workers → sizes workers 0 workers index es ≡ length es
all_events workers index [] some = no_events workers 0 workers index
all_events workers index (e ∷ es) some =
    let one = one_more workers 0 workers index e es (omega arith) (rw (zero-add workers) (mod-lt e.thread some)) in
    let rest = all_events workers (index + 1) es some in
    omega (arith, one, rest)

shifted : (first k : ℕ) → suc first + k ≡ first + suc k
shifted first k = omega arith

of_receipts : (workers first : ℕ) (events : List Event) (all : List (List Receipt)) → ((k : ℕ) (mine : List Receipt) → slice_get all k ≡ Some mine → IsDealt workers (first + k) events mine)
    → receipts_in all ≡ sizes workers first (length all) 0 events
of_receipts workers first events [] dealt = refl
of_receipts workers first events (mine ∷ all) dealt =
    let here : IsDealt workers first events mine = rw (← add-zero first) (dealt 0 mine refl) in
    let count : length mine ≡ length (entries_of workers first 0 events) = sym (length-map mine entry_of) ∙ ap (λ (es : List Entry). length es) here in
    let rest = of_receipts workers (suc first) events all (λ k m at. rw (shifted first k) (dealt (suc k) m at)) in
    omega (arith, sum_by-cons (λ (rs : List Receipt). length rs) mine all, count, rest)

-- the receipts of all workers are as many as the events
pub as_many : (workers : ℕ) (events : List Event) (all : List (List Receipt)) → 0 < workers → length all ≡ workers
    → ((k : ℕ) (mine : List Receipt) → slice_get all k ≡ Some mine → IsDealt workers k events mine) → receipts_in all ≡ length events
as_many workers events all some count dealt =
    of_receipts workers 0 events all (λ k mine at. rw (zero-add k) (dealt k mine at)) ∙ ap (λ n. sizes workers 0 n 0 events) count ∙ all_events workers 0 events some
