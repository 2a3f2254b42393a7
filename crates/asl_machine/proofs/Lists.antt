-- What a list gives after a write.
use Rattle.std.proofs.Common.{◌≡◌, ◌≢◌, ℕ, zero, suc, ◌<◌, ◌⊎◌, List, [], ◌∷◌, ◌++◌, replicate, Some, length, set, slice_get, refl, ap, sym, inl, inr, arith}
use Rattle.std.specs.Prelude.{IsSome}

-- at the place of the write, what was written
pub get_same : {X : Type 0} (xs : List X) (i : ℕ) (v : X) → i < length xs → slice_get (set xs i v) i ≡ Some v
get_same [] i v lt = absurd (omega arith)
get_same (x ∷ xs) zero v lt = refl
get_same (x ∷ xs) (suc i) v lt = get_same xs i v (omega arith)

-- elsewhere, what was there
pub get_other : {X : Type 0} (xs : List X) (i j : ℕ) (v : X) → j ≢ i → slice_get (set xs i v) j ≡ slice_get xs j
get_other [] i j v ne = refl
get_other (x ∷ xs) zero zero v ne = absurd (ne refl)
get_other (x ∷ xs) zero (suc j) v ne = refl
get_other (x ∷ xs) (suc i) zero v ne = refl
get_other (x ∷ xs) (suc i) (suc j) v ne = get_other xs i j v (λ e. ne (ap suc e))

-- to write what is there changes nothing
pub set_same : {X : Type 0} (xs : List X) (i : ℕ) (v : X) → slice_get xs i ≡ Some v → set xs i v ≡ xs
set_same [] i v e = refl
set_same (x ∷ xs) zero v e = let is : x ≡ v = cc in ap (λ y. y ∷ xs) (sym is)
set_same {X = X} (x ∷ xs) (suc i) v e = ap {B = List X} (λ ys. x ∷ ys) (set_same xs i v e)

-- after a write there is something where something was
pub get_kept : {X : Type 0} (xs : List X) (i j : ℕ) (v w : X) → slice_get xs j ≡ Some w → (slice_get (set xs i v) j ≡ Some v) ⊎ (slice_get (set xs i v) j ≡ Some w)
get_kept [] i j v w e = inr e
get_kept (x ∷ xs) zero zero v w e = inl refl
get_kept (x ∷ xs) zero (suc j) v w e = inr e
get_kept (x ∷ xs) (suc i) zero v w e = inr e
get_kept (x ∷ xs) (suc i) (suc j) v w e = get_kept xs i j v w e

-- what is there after a write was written or was there
pub get_either : {X : Type 0} (xs : List X) (i j : ℕ) (v w : X) → slice_get (set xs i v) j ≡ Some w → (w ≡ v) ⊎ (slice_get xs j ≡ Some w)
get_either [] i j v w e = inr e
get_either (x ∷ xs) zero zero v w e = inl (cc)
get_either (x ∷ xs) zero (suc j) v w e = inr e
get_either (x ∷ xs) (suc i) zero v w e = inr e
get_either (x ∷ xs) (suc i) (suc j) v w e = get_either xs i j v w e

-- what a list of one value repeated has at a place
pub replicated : {X : Type 0} (n r : ℕ) (x v : X) → slice_get (replicate n x) r ≡ Some v → v ≡ x
replicated zero r x v e = cc
replicated (suc n) zero x v e = cc
replicated (suc n) (suc r) x v e = replicated n r x v e

-- what is there after one more was added was there, or is that one
pub one_more : {X : Type 0} (xs : List X) (y z : X) (u : ℕ) → slice_get (xs ++ y ∷ []) u ≡ Some z → (slice_get xs u ≡ Some z) ⊎ (z ≡ y)
one_more [] y z zero e = inr (cc)
one_more [] y z (suc u) e = inl (cc)
one_more (x ∷ xs) y z zero e = inl e
one_more (x ∷ xs) y z (suc u) e = one_more xs y z u e

-- what is there is there when more was added
pub get_before : {X : Type 0} (xs ys : List X) (i : ℕ) (v : X) → slice_get xs i ≡ Some v → slice_get (xs ++ ys) i ≡ Some v
get_before [] ys i v e = cc
get_before (x ∷ xs) ys zero v e = e
get_before (x ∷ xs) ys (suc i) v e = get_before xs ys i v e

-- one more is there at the place that was the length
pub get_last : {X : Type 0} (xs : List X) (v : X) → slice_get (xs ++ v ∷ []) (length xs) ≡ Some v
get_last [] v = refl
get_last (x ∷ xs) v = get_last xs v

-- below the length something is there
pub is_there : {X : Type 0} (xs : List X) (i : ℕ) → i < length xs → IsSome (slice_get xs i)
is_there [] i lt = absurd (omega arith)
is_there (x ∷ xs) zero lt = refl
is_there (x ∷ xs) (suc i) lt = is_there xs i (omega arith)
