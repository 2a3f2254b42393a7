-- Marks of functions: one more, and only one.
use Rattle.std.proofs.Common.{◌≡◌, ℕ, zero, suc, ◌<◌, ◌⊎◌, inl, inr, Bool, true, false, List, [], ◌∷◌, length, replicate, get_or, Some, slice_get, slice_set, refl, ap, arith}
use Rattle.asl_lower.specs.Reach.{IsMarked, unmarked}

-- one mark more
pub set_kept : (marks : List Bool) (n function : ℕ) → IsMarked marks function → IsMarked (slice_set marks n true) function
set_kept [] n function h = absurd (cc)
set_kept (m ∷ marks) zero zero h = refl
set_kept (m ∷ marks) zero (suc function) h = h
set_kept (m ∷ marks) (suc n) zero h = h
set_kept (m ∷ marks) (suc n) (suc function) h = set_kept marks n function h

pub set_here : (marks : List Bool) (n : ℕ) → n < length marks → IsMarked (slice_set marks n true) n
set_here [] n h = absurd (omega arith)
set_here (m ∷ marks) zero h = refl
set_here (m ∷ marks) (suc n) h = set_here marks n (omega arith)

pub set_cases : (marks : List Bool) (n function : ℕ) → IsMarked (slice_set marks n true) function → (function ≡ n) ⊎ IsMarked marks function
set_cases [] n function h = inr h
set_cases (m ∷ marks) zero zero h = inl refl
set_cases (m ∷ marks) zero (suc function) h = inr h
set_cases (m ∷ marks) (suc n) zero h = inr h
set_cases (m ∷ marks) (suc n) (suc function) h =
    elim (set_cases marks n function h) [ inl e ↦ inl (ap suc e) | inr g ↦ inr g ]

pub set_fewer : (marks : List Bool) (n : ℕ) → slice_get marks n ≡ Some false → suc (unmarked (slice_set marks n true)) ≡ unmarked marks
set_fewer [] n h = absurd (cc)
set_fewer (true ∷ marks) zero h = absurd (cc)
set_fewer (false ∷ marks) zero h = refl
set_fewer (true ∷ marks) (suc n) h = set_fewer marks n h
set_fewer (false ∷ marks) (suc n) h = ap suc (set_fewer marks n h)

-- where only one has a mark
pub none_marked : (n function : ℕ) → IsMarked (replicate n false) function → ⊥
none_marked zero function h = cc
none_marked (suc n) zero h = cc
none_marked (suc n) (suc function) h = none_marked n function h

pub only_one : (n main function : ℕ) → IsMarked (slice_set (replicate n false) main true) function → function ≡ main
only_one n main function h =
    elim (set_cases (replicate n false) main function h) [ inl e ↦ e | inr g ↦ absurd (none_marked n function g) ]

-- a mark that is read
pub marked_if_read : (marks : List Bool) (n : ℕ) → get_or marks n false ≡ true → IsMarked marks n
marked_if_read [] n h = cc
marked_if_read (m ∷ marks) zero h = ap Some h
marked_if_read (m ∷ marks) (suc n) h = marked_if_read marks n h

pub read_if_marked : (marks : List Bool) (n : ℕ) → IsMarked marks n → get_or marks n false ≡ true
read_if_marked [] n h = cc
read_if_marked (m ∷ marks) zero h = cc
read_if_marked (m ∷ marks) (suc n) h = read_if_marked marks n h
