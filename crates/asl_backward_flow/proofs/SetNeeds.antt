-- The needs that sets tell, as pairs of a pc and a number.
use Rattle.std.proofs.Common.{◌≡◌, ◌⊎◌, ⊎_elim, ℕ, zero, suc, ◌+◌, List, [], ◌∷◌, ◌++◌, Bool, true, false, Some, map, slice_get, inl, inr, refl, ap, sym, subst, ◌∙◌, arith}
use Rattle.asl_backward_flow.specs.Found.{IsAt, list_at}
use Rattle.asl_backward_flow.specs.Parts.{needs_from}
use Rattle.asl_lane_sets.specs.NumberSet.{IsIn, members_from, members_of}
use Rattle.asl_backward_flow.proofs.Sets.{some_same, at_front}

-- what stands in a list that is made from another
pub mapped_at : {X Y : Type 0} (f : X → Y) (xs : List X) (n : ℕ) (x : X) → slice_get xs n ≡ Some x → slice_get (map f xs) n ≡ Some (f x)
mapped_at f [] n x e = absurd cc
mapped_at f (y ∷ xs) zero x e = ap (λ z. Some (f z)) (some_same e)
mapped_at f (y ∷ xs) (suc n) x e = mapped_at f xs n x e

-- the members of a set, from a number on
members_at : (set : List Bool) (first n i : ℕ) → slice_get (members_from first set) i ≡ Some n → (k : ℕ) × (n ≡ first + k) × IsIn set k
members_at [] first n i e = absurd (nothing i e)
  where
    nothing : (k : ℕ) → slice_get {X = ℕ} [] k ≡ Some n → ⊥
    nothing k h = cc
members_at (true ∷ set) first n zero e = let is : first ≡ n = some_same e in (0, omega (arith, is), refl)
members_at (true ∷ set) first n (suc i) e = let r = members_at set (first + 1) n i e in let is = r.1 in (suc r.0, omega (arith, is), r.2)
members_at (false ∷ set) first n i e = let r = members_at set (first + 1) n i e in let is = r.1 in (suc r.0, omega (arith, is), r.2)

at_members : (set : List Bool) (first k n : ℕ) → n ≡ first + k → IsIn set k → IsAt (members_from first set) n
at_members [] first k n is h = absurd (nothing k h)
  where
    nothing : (i : ℕ) → slice_get {X = Bool} [] i ≡ Some true → ⊥
    nothing i e = cc
at_members (true ∷ set) first zero n is h = let same : first ≡ n = omega (arith, is) in (0, ap Some same)
at_members (true ∷ set) first (suc k) n is h = let r = at_members set (first + 1) k n (omega (arith, is)) h in (suc r.0, r.1)
at_members (false ∷ set) first zero n is h = absurd (differ h)
  where
    differ : Some false ≡ Some true → ⊥
    differ e = cc
at_members (false ∷ set) first (suc k) n is h = let r = at_members set (first + 1) k n (omega (arith, is)) h in (r.0, r.1)

module _ {A : Type 0} where
  pub at_either : (xs ys : List A) (x : A) (i : ℕ) → slice_get (xs ++ ys) i ≡ Some x → IsAt xs x ⊎ IsAt ys x
  at_either [] ys x i e = inr (i, e)
  at_either (y ∷ xs) ys x zero e = inl (0, e)
  at_either (y ∷ xs) ys x (suc i) e = ⊎_elim (λ o. inl (suc o.0, o.1)) (λ o. inr o) (at_either xs ys x i e)

  pub at_right : (xs ys : List A) (x : A) → IsAt ys x → IsAt (xs ++ ys) x
  at_right [] ys x h = h
  at_right (y ∷ xs) ys x h = let r = at_right xs ys x h in (suc r.0, r.1)

pairs_at : (pc : ℕ) (ns : List ℕ) (q n i : ℕ) → slice_get {X = ℕ × ℕ} (map (λ j. (pc, j)) ns) i ≡ Some (q, n) → (q ≡ pc) × IsAt ns n
pairs_at pc [] q n i e = absurd (nothing i e)
  where
    nothing : (k : ℕ) → slice_get {X = ℕ × ℕ} [] k ≡ Some (q, n) → ⊥
    nothing k h = cc
pairs_at pc (x ∷ ns) q n zero e =
    let is : (pc, x) ≡ (q, n) = some_same e in
    let number : x ≡ n = ap (λ (y : ℕ × ℕ). y.1) is in
    (sym (ap (λ (y : ℕ × ℕ). y.0) is), (0, ap Some number))
pairs_at pc (x ∷ ns) q n (suc i) e = let r = pairs_at pc ns q n i e in (r.0, (suc r.1.0, r.1.1))

-- the needs that sets tell
pub needs_at : (sets : List (List Bool)) (first q n i : ℕ) → slice_get {X = ℕ × ℕ} (needs_from first sets) i ≡ Some (q, n) → (k : ℕ) × (q ≡ first + k) × IsIn (list_at sets k) n
needs_at [] first q n i e = absurd (nothing i e)
  where
    nothing : (k : ℕ) → slice_get {X = ℕ × ℕ} [] k ≡ Some (q, n) → ⊥
    nothing k h = cc
needs_at (set ∷ sets) first q n i e =
    ⊎_elim
    (λ o.
    let pair = pairs_at first (members_of set) q n o.0 o.1 in
    let m = members_at set 0 n pair.1.0 pair.1.1 in
    let is = m.1 in
    let same : m.0 ≡ n = omega (arith, is) in
    let pc = pair.0 in
    (0, omega (arith, pc), subst (IsIn set) same m.2))
    (λ o. let r = needs_at sets (first + 1) q n o.0 o.1 in let is = r.1 in (suc r.0, omega (arith, is), r.2))
    (at_either (map (λ j. (first, j)) (members_of set)) (needs_from (first + 1) sets) (q, n) i e)

-- each number of a set is needed at the set's pc
pub at_needs : (sets : List (List Bool)) (first k n q : ℕ) → q ≡ first + k → IsIn (list_at sets k) n → IsAt (needs_from first sets) (q, n)
at_needs [] first k n q is h = absurd (nothing n h)
  where
    nothing : (i : ℕ) → slice_get {X = Bool} [] i ≡ Some true → ⊥
    nothing i e = cc
at_needs (set ∷ sets) first zero n q is h =
    let m = at_members set 0 n n (omega arith) h in
    let same : first ≡ q = omega (arith, is) in
    let pair = mapped_at (λ j. (first, j)) (members_of set) m.0 n m.1 in
    (m.0, at_front (map (λ j. (first, j)) (members_of set)) (needs_from (first + 1) sets) m.0 (first, n) pair ∙ ap (λ x. Some (x, n)) same)
at_needs (set ∷ sets) first (suc k) n q is h = at_right (map (λ j. (first, j)) (members_of set)) (needs_from (first + 1) sets) (q, n) (at_needs sets (first + 1) k n q (omega (arith, is)) h)
