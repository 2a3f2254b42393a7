-- Members are numbered by their classes: those that are related share a number, and classes are numbered by their first members.
use Rattle.std.proofs.Common.{◌≡◌, ◌⊎◌, ◌<◌, ◌+◌, ℕ, zero, suc, List, [], ◌∷◌, ◌++◌, Some, length, slice_get, refl, sym, ◌∙◌, subst, inl, inr, arith}
use Rattle.std.proofs.lemmas.Option.{slice_get_within}
use Rattle.asl_points_to.specs.Classes.{AreNumbered}
use Rattle.asl_theorems.proofs.Surely.{get_last, length_last}

pub get_front : {E : Type 0} (xs ys : List E) (k : ℕ) (x : E) → slice_get xs k ≡ Some x → slice_get (xs ++ ys) k ≡ Some x
get_front [] ys k x h = cc
get_front (y ∷ xs) ys zero x h = h
get_front (y ∷ xs) ys (suc k) x h = get_front xs ys k x h

pub get_end : {E : Type 0} (xs : List E) (y : E) → slice_get (xs ++ y ∷ []) (length xs) ≡ Some y
get_end [] y = refl
get_end (x ∷ xs) y = get_end xs y

module _ (R : ℕ → ℕ → Type 0) (n : ℕ) where
  -- no two of the members are related
  abbrev pub AreApart : List ℕ → Type 0
  AreApart fs = (i j m k : ℕ) → slice_get fs i ≡ Some m → slice_get fs j ≡ Some k → R m k → i ≡ j

  abbrev pub AreBelow : List ℕ → Type 0
  AreBelow fs = (k m : ℕ) → slice_get fs k ≡ Some m → m < n

  -- the numbers of the members from `a` on, so many, where these are the first members so far
  pub record Numbers (firsts : List ℕ) (a rest : ℕ) : Type 0 where
    pub numbers : List ℕ
    pub all : List ℕ
    pub count : length numbers ≡ rest
    pub numbered : AreNumbered (length all) (length firsts) numbers
    pub extends : (k m : ℕ) → slice_get firsts k ≡ Some m → slice_get all k ≡ Some m
    pub apart : AreApart all
    pub below : AreBelow all
    pub each : (k x : ℕ) → slice_get numbers k ≡ Some x → (m : ℕ) × (slice_get all x ≡ Some m) × R m (a + k)

module _ (R : ℕ → ℕ → Type 0) (itself : (m : ℕ) → R m m) (n : ℕ) (tell : (m k : ℕ) → m < n → k < n → R m k ⊎ (R m k → ⊥)) where
  find : (fs : List ℕ) (a : ℕ) → a < n → AreBelow R n fs → ((i : ℕ) × (m : ℕ) × (slice_get fs i ≡ Some m) × R m a) ⊎ ((i m : ℕ) → slice_get fs i ≡ Some m → R m a → ⊥)
  find [] a lt below = inr (λ i m h r. absurd (cc))
  find (f ∷ fs) a lt below =
      elim (tell f a (below zero f refl) lt) [
        | inl r ↦ inl (zero, f, refl, r)
        | inr bad ↦ elim (find fs a lt (λ k m h. below (suc k) m h)) [
          | inl p ↦ inl (suc p.0, p.1, p.2, p.3)
          | inr none ↦ inr (no_one f fs a bad none)
        ]
      ]
    where
      no_one : (f : ℕ) (fs : List ℕ) (a : ℕ) → (R f a → ⊥) → ((i m : ℕ) → slice_get fs i ≡ Some m → R m a → ⊥) → (i m : ℕ) → slice_get (f ∷ fs) i ≡ Some m → R m a → ⊥
      no_one f fs a bad none zero m h r = let e : f ≡ m = cc in bad (subst (λ x. R x a) (sym e) r)
      no_one f fs a bad none (suc i) m h r = none i m h r

  below_more : (fs : List ℕ) (a : ℕ) → a < n → AreBelow R n fs → AreBelow R n (fs ++ a ∷ [])
  below_more fs a lt below k m h =
      elim (get_last fs a k m h) [
        | inl p ↦ below k m p
        | inr p ↦ subst (λ x. x < n) p.1 lt
      ]

  apart_more : (back : (m k : ℕ) → R m k → R k m) (fs : List ℕ) (a : ℕ) → AreApart R n fs → ((i m : ℕ) → slice_get fs i ≡ Some m → R m a → ⊥) → AreApart R n (fs ++ a ∷ [])
  apart_more back fs a apart none i j m k hi hj r =
      elim (get_last fs a i m hi) [
        | inl p ↦ elim (get_last fs a j k hj) [
          | inl q ↦ apart i j m k p q r
          | inr q ↦ absurd (none i m p (subst (λ x. R m x) (sym q.1) r))
        ]
        | inr p ↦ elim (get_last fs a j k hj) [
          | inl q ↦ absurd (none j k q (back a k (subst (λ x. R x k) (sym p.1) r)))
          | inr q ↦ p.0 ∙ sym q.0
        ]
      ]

  pub number_from : (back : (m k : ℕ) → R m k → R k m) (rest a : ℕ) (firsts : List ℕ) → a + rest ≡ n → AreApart R n firsts → AreBelow R n firsts → Numbers R n firsts a rest
  number_from back zero a firsts e apart below = record {
    numbers = [];
    all = firsts;
    count = refl;
    numbered = refl;
    extends = λ k m h. h;
    apart = apart;
    below = below;
    each = λ k x h. absurd (cc);
  }
  number_from back (suc rest) a firsts e apart below =
      let lt : a < n = omega (arith, e) in
      elim (find firsts a lt below) [
        | inl p ↦ old p.0 p.1 p.2 p.3 (number_from back rest (suc a) firsts (omega (arith, e)) apart below)
        | inr none ↦ new (number_from back rest (suc a) (firsts ++ a ∷ []) (omega (arith, e)) (apart_more back firsts a apart none) (below_more firsts a lt below))
      ]
    where
      later : (all : List ℕ) (numbers : List ℕ) (x : ℕ) → ((m : ℕ) × (slice_get all x ≡ Some m) × R m a) → ((k y : ℕ) → slice_get numbers k ≡ Some y → (m : ℕ) × (slice_get all y ≡ Some m) × R m (suc a + k)) →
          (k y : ℕ) → slice_get (x ∷ numbers) k ≡ Some y → (m : ℕ) × (slice_get all y ≡ Some m) × R m (a + k)
      later all numbers x first each zero y h =
          let e : x ≡ y = cc in
          let same : a ≡ a + zero = omega arith in
          subst (λ z. (m : ℕ) × (slice_get all z ≡ Some m) × R m (a + zero)) e (first.0, first.1, subst (R first.0) same first.2)
      later all numbers x first each (suc k) y h =
          let r = each k y h in
          let same : suc a + k ≡ a + suc k = omega arith in (r.0, r.1, subst (R r.0) same r.2)

      old : (i m : ℕ) → slice_get firsts i ≡ Some m → R m a → Numbers R n firsts (suc a) rest → Numbers R n firsts a (suc rest)
      old i m at r t = record {
        numbers = i ∷ t.numbers;
        all = t.all;
        count = (let whole = t.count in omega (arith, whole));
        numbered = inl (slice_get_within firsts i m at, t.numbered);
        extends = t.extends;
        apart = t.apart;
        below = t.below;
        each = later t.all t.numbers i (m, t.extends i m at, r) t.each;
      }

      new : Numbers R n (firsts ++ a ∷ []) (suc a) rest → Numbers R n firsts a (suc rest)
      new t =
          let longer : length (firsts ++ a ∷ []) ≡ suc (length firsts) = (let more = length_last firsts a in omega (arith, more)) in
          record {
            numbers = length firsts ∷ t.numbers;
            all = t.all;
            count = (let whole = t.count in omega (arith, whole));
            numbered = inr (refl, subst (λ k. AreNumbered (length t.all) k t.numbers) longer t.numbered);
            extends = λ k m h. t.extends k m (get_front firsts (a ∷ []) k m h);
            apart = t.apart;
            below = t.below;
            each = later t.all t.numbers (length firsts) (a, t.extends (length firsts) a (get_end firsts a), itself a) t.each;
          }
