-- A list that has each number below a bound once, and no other, is as long as the bound.
use Rattle.std.proofs.Common.{◌≡◌, ℕ, zero, suc, ◌+◌, ◌<◌, ◌≤◌, List, [], ◌∷◌, length, sym, refl, ◌∙◌, cond, nat_eq, nat_lt, arith}
use Rattle.std.specs.Prelude.{count_by}
use Rattle.std.proofs.lemmas.Bool.Decides.{nat_tests}
use Rattle.std.proofs.lemmas.List.Sums.{sum_by-cons}
use Rattle.asl_turns.specs.Turn.{times, once_below}

-- how many are below the bound
abbrev below : ℕ → List ℕ → ℕ
below bound ts = count_by (λ t. nat_lt t bound) ts

times-cons : (x t : ℕ) (ts : List ℕ) → times x (t ∷ ts) ≡ cond (nat_eq t x) 1 0 + times x ts
times-cons x t ts = sum_by-cons (λ s. cond (nat_eq s x) 1 0) t ts

below-cons : (bound t : ℕ) (ts : List ℕ) → below bound (t ∷ ts) ≡ cond (nat_lt t bound) 1 0 + below bound ts
below-cons bound t ts = sum_by-cons (λ s. cond (nat_lt s bound) 1 0) t ts

one_more : (m t : ℕ) → cond (nat_lt t (suc m)) 1 0 ≡ cond (nat_lt t m) 1 0 + cond (nat_eq t m) 1 0
one_more m t = grind (arith, nat_tests)

below_more : (m : ℕ) (ts : List ℕ) → below (suc m) ts ≡ below m ts + times m ts
below_more m [] = refl
below_more m (t ∷ ts) =
    omega (arith, below-cons (suc m) t ts, below-cons m t ts, times-cons m t ts, one_more m t, below_more m ts)

no_less : (t : ℕ) → ◌≡◌ {A = ℕ} (cond (nat_lt t 0) 1 0) 0
no_less t = grind (arith, nat_tests)

below_zero : (ts : List ℕ) → below 0 ts ≡ 0
below_zero [] = refl
below_zero (t ∷ ts) = omega (arith, below-cons 0 t ts, no_less t, below_zero ts)

once : (x n : ℕ) → x < n → once_below x n ≡ 1
once x n h = grind (arith, nat_tests)

counts : (n : ℕ) (ts : List ℕ) → ((x : ℕ) → times x ts ≡ once_below x n) → (m : ℕ) → m ≤ n → below m ts ≡ m
counts n ts h zero le = below_zero ts
counts n ts h (suc m) le =
    omega (arith, below_more m ts, h m, once m n (omega arith), counts n ts h m (omega arith))

inside : (n t : ℕ) → t < n → ◌≡◌ {A = ℕ} (cond (nat_lt t n) 1 0) 1
inside n t h = grind (arith, nat_tests)

there : (t : ℕ) → ◌≡◌ {A = ℕ} (cond (nat_eq t t) 1 0) 1
there t = grind (arith, nat_tests)

all_below : (n : ℕ) (ts : List ℕ) → ((t : ℕ) → 0 < times t ts → t < n) → below n ts ≡ length ts
all_below n [] h = refl
all_below n (t ∷ ts) h =
    let here : t < n = h t (omega (arith, times-cons t t ts, there t)) in
    omega (arith, below-cons n t ts, inside n t here, all_below n ts (λ x some. h x (omega (arith, times-cons x t ts))))

outside : (t n : ℕ) → 0 < once_below t n → t < n
outside t n h = grind (arith, nat_tests)

pub counted : (n : ℕ) (ts : List ℕ) → ((x : ℕ) → times x ts ≡ once_below x n) → length ts ≡ n
counted n ts h =
    sym (all_below n ts (λ t some. outside t n (omega (arith, h t)))) ∙ counts n ts h n (omega arith)
