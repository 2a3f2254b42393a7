-- The lists of the threads: what stands in them at a place, and who of a line clashes.
use Rattle.std.proofs.Common.{true, ◌≡◌, ◌≢◌, ℕ, ◌<◌, ◌≤◌, ◌==◌, ◌&&◌, not, All, List, [], ◌∷◌, ◌++◌, length, map, take, get_or, slice_index_or, refl, ap, sym, subst, ◌∙◌, inl, inr, arith}
use Rattle.std.specs.List.{Any, list_all}
use Rattle.std.proofs.lemmas.Bool.{and_parts, not-true, both_ways}
use Rattle.std.proofs.lemmas.Bool.Decides.{eqb_tells}
use Rattle.std.proofs.lemmas.List.Elements.{All-nil, All-cons}
use Rattle.std.proofs.lemmas.List.{get_or-map, get_or-take, get_or_default, length-map, length-take-le}
use Rattle.asl_lock_forest.specs.Holding.{Request}
use Rattle.asl_lock_queue.specs.Waiting.{Waiter, GoTogether, Clash, IsAbsent, is_absent}
use Rattle.asl_lock_queue.specs.Lines.{waiter, waiting_of, AreLined}
use Rattle.asl_lock_queue.proofs.ListFacts.{All-made, All-middle}

-- the thread at a place of the front of a line
front_at : (line : List ℕ) (ahead k d : ℕ) → ahead ≤ length line → k < ahead → get_or (take ahead line) k d ≡ get_or line k 0
front_at line ahead k d within below = get_or-take ahead line k d below ∙ get_or_default line k d 0 (omega (arith, within, below))

-- what goes with each of the first wishes goes with all of them
pub waiters_go : (wanted : List Request) (line : List ℕ) (ahead : ℕ) (request : Request) → ahead ≤ length line
    → ((k : ℕ) → k < ahead → GoTogether request (slice_index_or wanted (slice_index_or line k 0) []))
    → All (λ w. GoTogether request w.1) (waiting_of wanted (take ahead line))
waiters_go wanted line ahead request within go =
    All-made (λ w. GoTogether request w.1) (waiter wanted) (take ahead line) (λ k d there.
    let below : k < ahead = let n = length-take-le ahead line within in omega (arith, n, there) in
    subst (λ t. GoTogether request (slice_index_or wanted t [])) (sym (front_at line ahead k d within below)) (go k below))

-- what clashes with one of the first wishes clashes with some of them
pub waiter_clashes : (wanted : List Request) (line : List ℕ) (ahead : ℕ) (request : Request) (k : ℕ) → ahead ≤ length line → k < ahead
    → Clash request (slice_index_or wanted (slice_index_or line k 0) []) → Any (λ w. Clash request w.1) (waiting_of wanted (take ahead line))
waiter_clashes wanted line ahead request k within below clash =
    let w = waiter wanted (get_or line k 0) in
    let long = length-take-le ahead line within in
    let there : k < length (take ahead line) = omega (arith, long, below) in (
      k,
      w,
      (let same = length-map (take ahead line) (waiter wanted) in omega (arith, same, there)),
      get_or-map (waiter wanted) (take ahead line) k 0 w there ∙ ap (waiter wanted) (front_at line ahead k 0 within below),
      clash,
    )

-- the test for who waits, on the line
pub absent_line : (wanted : List Request) (t : ℕ) (line : List ℕ) → is_absent t (waiting_of wanted line) ≡ list_all (λ u. not (u == t)) line
absent_line wanted t [] = refl
absent_line wanted t (x ∷ xs) = ap (λ b. not (x == t) && b) (absent_line wanted t xs)

-- who is not found in the line is absent from the waiters
pub absent_told : (wanted : List Request) (t : ℕ) (line : List ℕ) → list_all (λ u. not (u == t)) line ≡ true → IsAbsent t (waiting_of wanted line)
absent_told wanted t [] all = All-nil _
absent_told wanted t (x ∷ xs) all =
    let parts = and_parts (not (x == t)) (list_all (λ u. not (u == t)) xs) all in
    All-cons (λ (w : Waiter). w.0 ≢ t) (waiter wanted x) (waiting_of wanted xs)
    (elim (eqb_tells x t) [
      | inl same ↦ absurd (both_ways (x == t) (not-true (x == t) parts.0) same.0)
      | inr apart ↦ apart.1
    ])
    (absent_told wanted t xs parts.1)

-- what an element that was read is made into
pub own_at : {X Y : Type 0} (f : X → Y) (xs : List X) (t : ℕ) (v : X) (d : Y) → t < length xs → v ≡ get_or xs t v → f v ≡ slice_index_or (map f xs) t d
own_at f xs t v d there is = ap f is ∙ sym (get_or-map f xs t v d there)

-- a thread of the line has a wish
pub asks_at : {X : Type 0} {classes threads : ℕ} {held : List Request} {t : ℕ} (front back : List ℕ) (lists : List X) (f : X → Request)
    → AreLined classes threads held (map f lists) (front ++ t ∷ back) → t < length lists
asks_at {X} {classes} {threads} {held} {t} front back lists f lined =
    let below = (All-middle (λ u. u < threads) front t back lined.threads_there).0 in
    let there = lined.wanted_there in
    let long = length-map lists f in
    omega (arith, below, there, long)

pub empty_list : {X : Type 0} (xs : List X) → length xs ≡ 0 → xs ≡ []
empty_list [] none = refl
empty_list (x ∷ xs) none = absurd (omega (arith, none))
