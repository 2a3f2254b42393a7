-- Workers that are joined one after the other.
use Rattle.std.proofs.Common.{◌≡◌, ◌⊎◌, inl, inr, ℕ, zero, suc, ◌+◌, ◌<◌, ◌||◌, Bool, true, false, List, [], ◌∷◌, ◌++◌, map, length, Vec, Global, Some, slice_get, refl, ap, sym, ◌∙◌, arith}
use Rattle.std.proofs.lemmas.List.{length-append, length-map, map-append}
use Rattle.std.proofs.Math.Nat.{add-zero}
use Rattle.std.proofs.lemmas.List.Sums.{sum_by_push}
use Rattle.asl_turns.specs.Turn.{Word, Turn}
use Rattle.asl_journal.specs.declared.event.Receipt.{Receipt}
use Rattle.asl_runner.specs.declared.worker.Work.{Work}
use Rattle.asl_runner.specs.History.{AreAllEndsLast, AreEndsLast}
use Rattle.asl_runner.specs.Ending.{AllTold}
use Rattle.asl_runner.specs.Working.{AreJoined, HasLeft}
use Rattle.asl_runner.specs.Starting.{IsOneRefused}

-- a seat that has taken what another has
abbrev pub together : Turn → Turn → Turn
together seat other = record { of = seat.of; left = seat.left + other.left; spent = seat.spent + other.spent; tickets = seat.tickets ++ other.tickets }

-- what stands at a place once one more was added stood there, or is that one at the end
pub at_or_last : {X : Type 0} (xs : List X) (y z : X) (k : ℕ) → slice_get (xs ++ y ∷ []) k ≡ Some z → (slice_get xs k ≡ Some z) ⊎ ((k ≡ length xs) × (z ≡ y))
at_or_last [] y z zero e = inr (refl, cc)
at_or_last [] y z (suc k) e = inl cc
at_or_last (x ∷ xs) y z zero e = inl e
at_or_last (x ∷ xs) y z (suc k) e = elim (at_or_last xs y z k e) [ inl there ↦ inl there | inr last ↦ inr (ap suc last.0, last.1) ]

why_more : (count workers : ℕ) (seat other : Turn) (all : List (List Receipt)) (mine : List Receipt)
    → ((worker : ℕ) (m : List Receipt) → slice_get all worker ≡ Some m → (0 < seat.spent) ⊎ AllTold count workers worker m)
    → (0 < other.spent) ⊎ AllTold count workers (length all) mine
    → (worker : ℕ) (m : List Receipt) → slice_get (all ++ mine ∷ []) worker ≡ Some m → (0 < (together seat other).spent) ⊎ AllTold count workers worker m
why_more count workers seat other all mine old new worker m at =
    elim (at_or_last all mine m worker at) [
      | inl there ↦ elim (old worker m there) [ inl spent ↦ inl (omega (arith, spent)) | inr told ↦ inr told ]
      | inr last ↦ elim new [ inl spent ↦ inl (omega (arith, spent)) | inr told ↦ inr (rw (last.0, last.1) told) ]
    ]

last_more : (all : List (List Receipt)) (mine : List Receipt) → AreAllEndsLast all → AreEndsLast mine → AreAllEndsLast (all ++ mine ∷ [])
last_more all mine old new worker m at =
    elim (at_or_last all mine m worker at) [ inl there ↦ old worker m there | inr last ↦ rw last.1 new ]

-- one more worker, to which nothing was refused
pub one_joined : (word : Word) (count workers : ℕ) (seat other : Turn) (all : List (List Receipt)) (mine : List Receipt)
    → AreJoined count workers seat all → HasLeft word count workers (length all) other mine false → AreJoined count workers (together seat other) (all ++ mine ∷ [])
one_joined word count workers seat other all mine old left =
    let stopped = left.stopped refl in
    record {
      drawn = sum_by_push (λ (rs : List Receipt). length rs) all mine ∙ ap (λ n. n + length mine) old.drawn ∙ ap (λ n. length seat.tickets + n) stopped.drawn ∙ sym (length-append seat.tickets other.tickets);
      last = last_more all mine old.last stopped.last;
      why = why_more count workers seat other all mine old.why stopped.why;
    }

-- each of the workers from a number on has left what a worker leaves
abbrev pub HaveWorkedFrom : Word → ℕ → ℕ → ℕ → List Work → Type 0
HaveWorkedFrom word count workers first works = (k : ℕ) (w : Work) → slice_get works k ≡ Some w → HasLeft word count workers (first + k) w.seat w.receipts.items w.refused

-- the first of the works, and those after it
pub first_worked : (word : Word) (count workers first : ℕ) (work : Work) (rest all : List Work) → all ≡ work ∷ rest → HaveWorkedFrom word count workers first all
    → HasLeft word count workers first work.seat work.receipts.items work.refused
first_worked word count workers first work rest all is h = rw (← add-zero first) (h 0 work (ap (λ (ws : List Work). slice_get ws 0) is))

pub rest_worked : (word : Word) (count workers first next : ℕ) (work : Work) (rest all : List Work) → all ≡ work ∷ rest → next ≡ first + 1 → HaveWorkedFrom word count workers first all
    → HaveWorkedFrom word count workers next rest
rest_worked word count workers first next work rest all is more h k w at =
    let number : next + k ≡ first + suc k = omega (arith, more) in
    rw number (h (suc k) w (ap (λ (ws : List Work). slice_get ws (suc k)) is ∙ at))

-- the rest are the works from a number on
abbrev pub AreFrom : ℕ → List Work → List Work → Type 0
AreFrom first works rest = (k : ℕ) (w : Work) → slice_get rest k ≡ Some w → slice_get works (first + k) ≡ Some w

-- the first of the rest, and those after it
pub first_from : (first : ℕ) (works : List Work) (work : Work) (rest all : List Work) → all ≡ work ∷ rest → AreFrom first works all → slice_get works first ≡ Some work
first_from first works work rest all is h = ap (slice_get works) (sym (add-zero first)) ∙ h 0 work (ap (λ (ws : List Work). slice_get ws 0) is)

pub rest_from : (first next : ℕ) (works : List Work) (work : Work) (rest all : List Work) → all ≡ work ∷ rest → next ≡ first + 1 → AreFrom first works all → AreFrom next works rest
rest_from first next works work rest all is more h k w at =
    let number : next + k ≡ first + suc k = omega (arith, more) in
    ap (slice_get works) number ∙ h (suc k) w (ap (λ (ws : List Work). slice_get ws (suc k)) is ∙ at)

-- where a refusal is told of those that have been joined and of one more, one of the works tells it
pub refused_more : (works : List Work) (first : ℕ) (work : Work) (refused : Bool) → slice_get works first ≡ Some work → (refused ≡ true → IsOneRefused works)
    → (refused || work.refused) ≡ true → IsOneRefused works
refused_more works first work false at old is = (first, work, at, is)
refused_more works first work true at old is = old refl

-- one more worker is joined, as the loop has it
pub work_joined : (word : Word) (count workers : ℕ) (seat now : Turn) (old new : List (Vec Receipt Global)) (work : Work) (refused : Bool) → now ≡ together seat work.seat → new ≡ old ++ work.receipts ∷ []
    → HasLeft word count workers (length old) work.seat work.receipts.items work.refused → (refused ≡ false → AreJoined count workers seat (map (λ mine. mine.items) old))
    → (refused || work.refused) ≡ false → AreJoined count workers now (map (λ mine. mine.items) new)
work_joined word count workers seat now old new work false is more left joined not =
    let all = map (λ (mine : Vec Receipt Global). mine.items) old in
    let items : map (λ (mine : Vec Receipt Global). mine.items) new ≡ all ++ work.receipts.items ∷ [] = ap (map (λ (mine : Vec Receipt Global). mine.items)) more ∙ map-append (λ (mine : Vec Receipt Global). mine.items) old (work.receipts ∷ []) in
    let number : length all ≡ length old = length-map old (λ (mine : Vec Receipt Global). mine.items) in
    rw (is, items) (one_joined word count workers seat work.seat all work.receipts.items (joined refl) (rw (number, sym not) left))
work_joined word count workers seat now old new work true is more left joined not = cc
