-- Parts of a list that stand in it at a place.
use Rattle.std.proofs.Common.{◌≡◌, ℕ, suc, ◌+◌, List, [], ◌∷◌, ◌++◌, length, Some, slice_get, refl, subst, arith}

-- the elements stand in the list from the place on
abbrev pub StandAt : {X : Type 0} → List X → ℕ → List X → Type 0
StandAt xs k [] = Unit {0}
StandAt xs k (y ∷ ys) = (slice_get xs k ≡ Some y) × StandAt xs (suc k) ys

-- the same at an equal place
pub at_place : {X : Type 0} (xs : List X) (k m : ℕ) (ys : List X) → k ≡ m → StandAt xs k ys → StandAt xs m ys
at_place xs k m ys e h = let P : ℕ → Type 0 = λ n. StandAt xs n ys in subst P e h

pub joins : {X : Type 0} (xs : List X) (k m : ℕ) (us bs : List X) → k + length us ≡ m → StandAt xs k us → StandAt xs m bs → StandAt xs k (us ++ bs)
joins xs k m [] bs e h g = at_place xs m k bs (omega arith) g
joins xs k m (a ∷ us) bs e h g = (h.0, joins xs (suc k) m us bs (omega arith) h.1 g)

pub splits : {X : Type 0} (xs : List X) (k m : ℕ) (us bs : List X) → k + length us ≡ m → StandAt xs k (us ++ bs) → StandAt xs k us × StandAt xs m bs
splits xs k m [] bs e h = (tt, at_place xs k m bs (omega arith) h)
splits xs k m (a ∷ us) bs e h =
    let r = splits xs (suc k) m us bs (omega arith) h.1 in
    ((h.0, r.0), r.1)

-- after one element more
shifts : {X : Type 0} (x : X) (xs : List X) (k : ℕ) (ys : List X) → StandAt (x ∷ xs) (suc k) ys → StandAt xs k ys
shifts x xs k [] h = tt
shifts x xs k (y ∷ ys) h = (h.0, shifts x xs (suc k) ys h.1)

unshifts : {X : Type 0} (x : X) (xs : List X) (k : ℕ) (ys : List X) → StandAt xs k ys → StandAt (x ∷ xs) (suc k) ys
unshifts x xs k [] h = tt
unshifts x xs k (y ∷ ys) h = (h.0, unshifts x xs (suc k) ys h.1)

-- a list stands in itself
pub stands_whole : {X : Type 0} (xs : List X) → StandAt xs 0 xs
stands_whole [] = tt
stands_whole (x ∷ xs) = (refl, unshifts x xs 0 xs (stands_whole xs))

-- what stands from the front on and is as long is the list
pub whole_same : {X : Type 0} (xs ys : List X) → StandAt xs 0 ys → length xs ≡ length ys → xs ≡ ys
whole_same [] [] h e = refl
whole_same [] (y ∷ ys) h e = absurd (omega arith)
whole_same (x ∷ xs) [] h e = absurd (omega arith)
whole_same (x ∷ xs) (y ∷ ys) h e =
    let q : Some x ≡ Some y = h.0 in
    let same : x ≡ y = cc in
    let rest : xs ≡ ys = whole_same xs ys (shifts x xs 0 ys h.1) (omega arith) in
    cc
