-- What cannot be missing, though nothing tells how it is found: excluded middle, choice below a number, and tables.
use Rattle.std.proofs.Common.{◌≡◌, ◌≢◌, ◌⊎◌, ◌<◌, ◌+◌, ℕ, zero, suc, List, [], ◌∷◌, ◌++◌, Some, length, slice_get, refl, sym, ◌∙◌, subst, inl, inr, arith}
use Rattle.std.proofs.lemmas.Bool.Decides.{eqb_tells}

-- a statement that cannot be false
abbrev pub Surely : Type 0 → Type 0
Surely P = (P → ⊥) → ⊥

pub surely : {P : Type 0} → P → Surely P
surely p n = n p

pub then : {P Q : Type 0} → Surely P → (P → Surely Q) → Surely Q
then s f n = s (λ p. f p n)

pub mapped : {P Q : Type 0} → Surely P → (P → Q) → Surely Q
mapped s f n = s (λ p. n (f p))

pub either : (P : Type 0) → Surely (P ⊎ (P → ⊥))
either P n = n (inr (λ p. n (inl p)))

pub same_or : (a b : ℕ) → (a ≡ b) ⊎ (a ≢ b)
same_or a b = elim (eqb_tells a b) [ inl h ↦ inl h.1 | inr h ↦ inr h.1 ]

-- what holds of the first numbers and of the next holds of one more
one_more : (P : ℕ → Type 0) (n : ℕ) → ((k : ℕ) → k < n → P k) → P n → (k : ℕ) → k < suc n → P k
one_more P n below at k lt =
    elim (same_or k n) [
      | inl e ↦ subst P (sym e) at
      | inr apart ↦ below k (omega (arith, lt, apart))
    ]

-- of each number below some
pub each_below : (P : ℕ → Type 0) (n : ℕ) → ((k : ℕ) → k < n → Surely (P k)) → Surely ((k : ℕ) → k < n → P k)
each_below P zero all = surely (λ k lt. absurd (omega (arith, lt)))
each_below P (suc n) all =
    then (each_below P n (λ k lt. all k (omega (arith, lt)))) (λ below. mapped (all n (omega arith)) (λ at. one_more P n below at))

-- some number below some, or none
pub some_below : (P : ℕ → Type 0) (n : ℕ) → ((k : ℕ) → k < n → P k ⊎ (P k → ⊥)) → ((k : ℕ) × (k < n) × P k) ⊎ ((k : ℕ) → k < n → P k → ⊥)
some_below P zero tell = inr (λ k lt. absurd (omega (arith, lt)))
some_below P (suc n) tell =
    elim (some_below P n (λ k lt. tell k (omega (arith, lt)))) [
      | inl h ↦ (let lt = h.1 in inl (h.0, omega (arith, lt), h.2))
      | inr none ↦ elim (tell n (omega arith)) [
        | inl p ↦ inl (n, omega arith, p)
        | inr bad ↦ inr (one_more (λ k. P k → ⊥) n none bad)
      ]
    ]

-- the least number of which something holds
pub least_below : (P : ℕ → Type 0) (n : ℕ) → ((k : ℕ) → k < n → P k ⊎ (P k → ⊥)) → ((k : ℕ) × (k < n) × P k × ((j : ℕ) → j < k → P j → ⊥)) ⊎ ((k : ℕ) → k < n → P k → ⊥)
least_below P zero tell = inr (λ k lt. absurd (omega (arith, lt)))
least_below P (suc n) tell =
    elim (least_below P n (λ k lt. tell k (omega (arith, lt)))) [
      | inl h ↦ (let lt = h.1 in inl (h.0, omega (arith, lt), h.2, h.3))
      | inr none ↦ elim (tell n (omega arith)) [
        | inl p ↦ inl (n, omega arith, p, none)
        | inr bad ↦ inr (one_more (λ k. P k → ⊥) n none bad)
      ]
    ]

-- ---- lists

pub get_last : {E : Type 0} (es : List E) (e : E) (k : ℕ) (x : E) → slice_get (es ++ e ∷ []) k ≡ Some x → (slice_get es k ≡ Some x) ⊎ ((k ≡ length es) × (e ≡ x))
get_last [] e zero x h = inr (refl, cc)
get_last [] e (suc k) x h = cc
get_last (y ∷ es) e zero x h = inl h
get_last (y ∷ es) e (suc k) x h = elim (get_last es e k x h) [ inl p ↦ inl p | inr p ↦ (let same = p.0 in inr (omega (arith, same), p.1)) ]

pub length_last : {E : Type 0} (es : List E) (e : E) → length (es ++ e ∷ []) ≡ length es + 1
length_last [] e = omega arith
length_last (y ∷ es) e = let r = length_last es e in omega (arith, r)

-- a list with an entry for each number below some
pub record Table {E : Type 0} (P : ℕ → E → Type 0) (n : ℕ) : Type 0 where
  pub entries : List E
  pub count : length entries ≡ n
  pub each : (k : ℕ) (e : E) → slice_get entries k ≡ Some e → P k e

pub table : {E : Type 0} (P : ℕ → E → Type 0) (n : ℕ) → ((k : ℕ) → k < n → Surely ((e : E) × P k e)) → Surely (Table P n)
table P zero all = surely (record { entries = []; count = refl; each = λ k e h. absurd (cc) })
table {E} P (suc n) all =
    then (table P n (λ k lt. all k (omega (arith, lt)))) (λ t. mapped (all n (omega arith)) (λ last. record {
      entries = t.entries ++ last.0 ∷ [];
      count = (let longer = length_last t.entries last.0 in let whole = t.count in omega (arith, longer, whole));
      each = λ k e h. elim (get_last t.entries last.0 k e h) [
        | inl p ↦ t.each k e p
        | inr p ↦ subst (λ j. P j e) (sym (p.0 ∙ t.count)) (subst (P n) p.1 last.1)
      ];
    }))
