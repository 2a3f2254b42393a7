-- The threads of a worker: each is as many numbers after the one before it as there are workers.
use Rattle.std.proofs.Common.{◌≡◌, ◌⊎◌, inl, inr, ℕ, ◌+◌, ◌-◌, ◌*◌, ◌/◌, ◌%◌, ◌<◌, ◌≤◌, ap, ◌∙◌, mod-eq_of_lt, arith}
use Rattle.std.proofs.lemmas.Bool.{cases_lt}
use Rattle.std.proofs.Math.Nat.{div-add-mod, mul-add-mod_self_left, mod-lt, mod-le}
use native.Mathlib.Nat.{mod-eq-sub-mod}

-- a number below twice as many as there are workers is its own rest, or as many above it
rest_of : (workers n : ℕ) → n < workers + workers → (n % workers ≡ n) ⊎ ((workers ≤ n) × (n % workers ≡ n - workers))
rest_of workers n below = elim (cases_lt n workers) [
  | inl low ↦ inl (mod-eq_of_lt low)
  | inr high ↦ inr (high, mod-eq-sub-mod high ∙ mod-eq_of_lt (omega arith))
]

-- no number between two threads of a worker is one of its threads
pub none_between : (workers t u : ℕ) → 0 < workers → t ≤ u → u < t + workers → (u % workers) ≡ (t % workers) → u ≡ t
none_between workers t u some low high same =
    let small = mod-lt t some in
    let rest = t % workers + (u - t) in
    let is : u ≡ workers * (t / workers) + rest = omega (arith, div-add-mod t workers) in
    let split : u % workers ≡ rest % workers = ap (λ n. n % workers) is ∙ mul-add-mod_self_left workers (t / workers) rest in
    elim (rest_of workers rest (omega arith)) [
      | inl whole ↦ omega (arith, whole, split, same)
      | inr less ↦ omega (arith, less.0, less.1, split, same)
    ]

-- no thread of a worker is before the first, which has its number
pub none_before : (workers worker t : ℕ) → (t % workers) ≡ worker → worker ≤ t
none_before workers worker t mine = omega (arith, mod-le t workers)

-- the first is the number of the worker
pub own_first : (workers worker : ℕ) → worker < workers → (worker % workers) ≡ worker
own_first workers worker below = mod-eq_of_lt below
