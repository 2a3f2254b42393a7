-- Facts on lists: what is out of a line, and what of a line with one of it taken out.
use Rattle.std.proofs.Common.{◌≡◌, ◌≢◌, ℕ, ◌<◌, ◌≤◌, ◌==◌, Bool, true, false, not, cond, All, List, [], ◌∷◌, ◌++◌, length, map, get_or, slice_set, slice_index_or, refl, ap, sym, subst, ◌∙◌, inl, inr, arith}
use Rattle.std.specs.List.{filter, IsDistinct, list_any}
use Rattle.std.proofs.lemmas.Bool.{ne_eqb, eqb-true, or_cases}
use Rattle.std.proofs.lemmas.Bool.Decides.{eqb_tells}
use Rattle.std.proofs.lemmas.List.{get_or-set_other, get_or-map, length-map}
use Rattle.std.proofs.lemmas.List.Elements.{All-nil, All-cons, All-head, All-tail, All-push, All-filter, All-weaker, recursion_from_All}
use Rattle.std.proofs.lemmas.Map.Steps.{length-le_from_distinct_below}
use Rattle.asl_lock_forest.specs.Holding.{Request}
use Rattle.asl_lock_queue.specs.Waiting.{Waiter, IsAbsent, WaitOnce}
use Rattle.asl_lock_queue.specs.Lines.{waiter, waiting_of, IsOut, IsOnce}

-- what holds of each of a list holds of one in its middle, and of each of the others
pub All-middle : {X : Type 0} (P : X → Type 0) (xs : List X) (y : X) (ys : List X) → All P (xs ++ y ∷ ys) → P y × All P (xs ++ ys)
All-middle P [] y ys all = (All-head P y ys all, All-tail P y ys all)
All-middle P (x ∷ xs) y ys all =
    let rest = All-middle P xs y ys (All-tail P x (xs ++ y ∷ ys) all) in
    (rest.0, All-cons P x (xs ++ ys) (All-head P x (xs ++ y ∷ ys) all) rest.1)

-- what holds of each of two lists
pub All-left : {X : Type 0} (P : X → Type 0) (xs ys : List X) → All P (xs ++ ys) → All P xs
All-left P [] ys all = All-nil P
All-left P (x ∷ xs) ys all = All-cons P x xs (All-head P x (xs ++ ys) all) (All-left P xs ys (All-tail P x (xs ++ ys) all))

pub All-right : {X : Type 0} (P : X → Type 0) (xs ys : List X) → All P (xs ++ ys) → All P ys
All-right P [] ys all = all
All-right P (x ∷ xs) ys all = All-right P xs ys (All-tail P x (xs ++ ys) all)

-- what holds of what each is made into
pub All-made : {X Y : Type 0} (P : Y → Type 0) (f : X → Y) (xs : List X) → All (λ x. P (f x)) xs → All P (map f xs)
All-made P f [] all = All-nil P
All-made P f (x ∷ xs) all = All-cons P (f x) (map f xs) (All-head (λ v. P (f v)) x xs all) (All-made P f xs (All-tail (λ v. P (f v)) x xs all))

pub All-of_made : {X Y : Type 0} (P : Y → Type 0) (f : X → Y) (xs : List X) → All P (map f xs) → All (λ x. P (f x)) xs
All-of_made P f [] all = All-nil (λ x. P (f x))
All-of_made P f (x ∷ xs) all =
    All-cons (λ v. P (f v)) x xs (All-head P (f x) (map f xs) all) (All-of_made P f xs (All-tail P (f x) (map f xs) all))

-- one taken out of a line is out of the rest, in which nobody is twice
pub once_middle : (xs : List ℕ) (t : ℕ) (ys : List ℕ) → IsOnce (xs ++ t ∷ ys) → IsOut t (xs ++ ys) × IsOnce (xs ++ ys)
once_middle [] t ys once = once
once_middle (x ∷ xs) t ys once =
    let rest = once_middle xs t ys once.1 in
    let out = All-middle (λ u. u ≢ x) xs t ys once.0 in
    (All-cons (λ u. u ≢ t) x (xs ++ ys) (λ same. out.0 (sym same)) rest.0, (out.1, rest.1))

-- a line gets longer by one who is out of it
pub once_push : (xs : List ℕ) (t : ℕ) → IsOnce xs → IsOut t xs → IsOnce (xs ++ t ∷ [])
once_push [] t once out = (All-nil (λ u. u ≢ t), tt)
once_push (x ∷ xs) t once out = (
  All-push (λ u. u ≢ x) xs t once.0 (λ same. All-head (λ u. u ≢ t) x xs out (sym same)),
  once_push xs t once.1 (All-tail (λ u. u ≢ t) x xs out),
)

-- a line without a thread
abbrev pub others : ℕ → List ℕ → List ℕ
others t line = filter (λ u. not (u == t)) line

pub once_others : (t : ℕ) (line : List ℕ) → IsOnce line → IsOnce (others t line)
once_others t [] once = tt
once_others t (x ∷ xs) once = elim (eqb_tells x t) [
  | inl same ↦ subst (λ b. IsOnce (cond (not b) (x ∷ others t xs) (others t xs))) (sym same.0) (once_others t xs once.1)
  | inr apart ↦ subst (λ b. IsOnce (cond (not b) (x ∷ others t xs) (others t xs))) (sym apart.0)
      (All-filter (λ u. not (u == t)) (λ u. u ≢ x) xs once.0, once_others t xs once.1)
]

pub out_others : (t : ℕ) (line : List ℕ) → IsOut t (others t line)
out_others t [] = All-nil (λ u. u ≢ t)
out_others t (x ∷ xs) = elim (eqb_tells x t) [
  | inl same ↦ subst (λ b. IsOut t (cond (not b) (x ∷ others t xs) (others t xs))) (sym same.0) (out_others t xs)
  | inr apart ↦ subst (λ b. IsOut t (cond (not b) (x ∷ others t xs) (others t xs))) (sym apart.0)
      (All-cons (λ u. u ≢ t) x (others t xs) apart.1 (out_others t xs))
]

-- who is out of the others and is not the one, is out of the line
pub out_of_others : (t u : ℕ) (line : List ℕ) → t ≢ u → IsOut u (others t line) → IsOut u line
out_of_others t u [] apart out = All-nil (λ v. v ≢ u)
out_of_others t u (x ∷ xs) apart out = elim (eqb_tells x t) [
  | inl same ↦
      let rest = subst (λ b. IsOut u (cond (not b) (x ∷ others t xs) (others t xs))) same.0 out in
      All-cons (λ v. v ≢ u) x xs (λ e. apart (sym same.1 ∙ e)) (out_of_others t u xs apart rest)
  | inr other ↦
      let rest = subst (λ b. IsOut u (cond (not b) (x ∷ others t xs) (others t xs))) other.0 out in
      All-cons (λ v. v ≢ u) x xs (All-head (λ v. v ≢ u) x (others t xs) rest) (out_of_others t u xs apart (All-tail (λ v. v ≢ u) x (others t xs) rest))
]

-- threads below a count, none twice, are at most so many
distinct_line : (line : List ℕ) → IsOnce line → IsDistinct (λ a b. a == b) line
unfolding IsDistinct
distinct_line [] once = tt
distinct_line (t ∷ later) once = (
  recursion_from_All (λ u. (t == u) ≡ false) later (All-weaker (λ u. u ≢ t) (λ u. (t == u) ≡ false) (λ u apart. ne_eqb t u (λ e. apart (sym e))) later once.0),
  distinct_line later once.1,
)

among_below : (n : ℕ) (line : List ℕ) → All (λ t. t < n) line → (q : ℕ) → list_any (λ t. q == t) line ≡ true → q < n
among_below n [] all q some = cc
among_below n (t ∷ later) all q some = elim (or_cases (q == t) (list_any (λ u. q == u) later) some) [
  | inl same ↦ let is = eqb-true q t same in let below = All-head (λ u. u < n) t later all in omega (arith, is, below)
  | inr rest ↦ among_below n later (All-tail (λ u. u < n) t later all) q rest
]

pub short_line : (n : ℕ) (line : List ℕ) → IsOnce line → All (λ t. t < n) line → length line ≤ n
short_line n line once below = length-le_from_distinct_below line n (distinct_line line once) (among_below n line below)

-- a wish of one who is out of the line is none of those in it
pub waiting_set : (wanted : List Request) (t : ℕ) (r : Request) (line : List ℕ) → IsOut t line → waiting_of (slice_set wanted t r) line ≡ waiting_of wanted line
waiting_set wanted t r [] out = refl
waiting_set wanted t r (x ∷ xs) out =
    let here : slice_index_or (slice_set wanted t r) x [] ≡ slice_index_or wanted x [] = get_or-set_other wanted t x r [] (All-head (λ u. u ≢ t) x xs out) in
    let rest = waiting_set wanted t r xs (All-tail (λ u. u ≢ t) x xs out) in
    λ i. (x, here i) ∷ rest i

-- the waiters without a thread
pub waiting_others : (wanted : List Request) (t : ℕ) (line : List ℕ) → filter (λ w. not (w.0 == t)) (waiting_of wanted line) ≡ waiting_of wanted (others t line)
waiting_others wanted t [] = refl
waiting_others wanted t (x ∷ xs) = elim (eqb_tells x t) [
  | inl same ↦
      ap (λ b. cond (not b) (waiter wanted x ∷ filter (λ w. not (w.0 == t)) (waiting_of wanted xs)) (filter (λ w. not (w.0 == t)) (waiting_of wanted xs))) same.0
      ∙ waiting_others wanted t xs
      ∙ sym (ap (λ b. waiting_of wanted (cond (not b) (x ∷ others t xs) (others t xs))) same.0)
  | inr apart ↦
      ap (λ b. cond (not b) (waiter wanted x ∷ filter (λ w. not (w.0 == t)) (waiting_of wanted xs)) (filter (λ w. not (w.0 == t)) (waiting_of wanted xs))) apart.0
      ∙ ap (λ l. waiter wanted x ∷ l) (waiting_others wanted t xs)
      ∙ sym (ap (λ b. waiting_of wanted (cond (not b) (x ∷ others t xs) (others t xs))) apart.0)
]

-- who is once in the line waits once
pub once_waits : (wanted : List Request) (line : List ℕ) → IsOnce line → WaitOnce (waiting_of wanted line)
once_waits wanted [] once = tt
once_waits wanted (t ∷ later) once = (All-made (λ w. w.0 ≢ t) (waiter wanted) later once.0, once_waits wanted later once.1)

-- who is absent from the waiters is out of the line
pub absent_out : (wanted : List Request) (t : ℕ) (line : List ℕ) → IsAbsent t (waiting_of wanted line) → IsOut t line
absent_out wanted t line absent = All-of_made (λ w. w.0 ≢ t) (waiter wanted) line absent
