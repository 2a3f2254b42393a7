-- What stands at a place of a list, of one that is taken apart, and of one that is joined.
use Rattle.std.proofs.Common.{◌≡◌, ◌<◌, ◌+◌, ℕ, zero, suc, List, [], ◌∷◌, ◌++◌, Some, length, take, drop, slice_get, refl, ap, ◌∙◌, arith}

pub get_below : {X : Type 0} (xs : List X) (n : ℕ) → n < length xs → (x : X) × (slice_get xs n ≡ Some x)
get_below [] n lt = absurd (omega (arith, lt))
get_below (x ∷ xs) zero lt = (x, refl)
get_below (x ∷ xs) (suc n) lt = get_below xs n (omega (arith, lt))

pub length_both : {X : Type 0} (xs ys : List X) → length (xs ++ ys) ≡ length xs + length ys
length_both [] ys = omega arith
length_both (x ∷ xs) ys = let r = length_both xs ys in omega (arith, r)

pub split : {X : Type 0} (n m : ℕ) (xs : List X) → length xs ≡ n + m → (length (take n xs) ≡ n) × (length (drop n xs) ≡ m) × (take n xs ++ drop n xs ≡ xs)
split zero m xs e = (refl, omega (arith, e), refl)
split (suc n) m [] e = absurd (omega (arith, e))
split (suc n) m (x ∷ xs) e =
    let r = split n m xs (omega (arith, e)) in
    let first = r.0 in (omega (arith, first), r.1, ap (λ ys. x ∷ ys) r.2)

pub get_left : {X : Type 0} (xs ys : List X) (k : ℕ) (x : X) → slice_get xs k ≡ Some x → slice_get (xs ++ ys) k ≡ Some x
get_left [] ys k x e = cc
get_left (y ∷ xs) ys zero x e = e
get_left (y ∷ xs) ys (suc k) x e = get_left xs ys k x e

pub get_right : {X : Type 0} (xs ys : List X) (k : ℕ) → slice_get (xs ++ ys) (length xs + k) ≡ slice_get ys k
get_right [] ys k = ap (slice_get ys) (let s : zero + k ≡ k = omega arith in s)
get_right (x ∷ xs) ys k = ap (slice_get (x ∷ (xs ++ ys))) (let s : suc (length xs) + k ≡ suc (length xs + k) = omega arith in s) ∙ get_right xs ys k

pub left_of : {X : Type 0} (xs ys : List X) (k : ℕ) → k < length xs → slice_get (xs ++ ys) k ≡ slice_get xs k
left_of [] ys k lt = absurd (omega (arith, lt))
left_of (x ∷ xs) ys zero lt = refl
left_of (x ∷ xs) ys (suc k) lt = left_of xs ys k (omega (arith, lt))
