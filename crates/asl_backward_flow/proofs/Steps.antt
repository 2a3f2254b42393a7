-- Additions one after the other.
use Rattle.std.proofs.Common.{◌≡◌, ⊎_elim, ℕ, ◌<◌, List, [], ◌∷◌, ◌++◌, length, inl, inr, refl, sym, subst, ◌∙◌, arith}
use Rattle.asl_code.specs.declared.lock.Lock.{Lock}
use Rattle.asl_lock_expr.specs.Links.{IsOne}
use Rattle.asl_lock_expr.proofs.Ones.{one_left, one_right, one_either}
use Rattle.asl_backward_flow.specs.Found.{Table, HasFact, HasPoint, IsWhole, Grows, Adds, Lists, AddsSome}

pub grows_same : (t : Table) → Grows t t
grows_same t = record { regions = refl; parts = refl; names = λ p n m e. e; points = λ p q h. h; facts = λ p q n h. h }

pub grows_on : (a b c : Table) → Grows a b → Grows b c → Grows a c
grows_on a b c x y = record {
  regions = y.regions ∙ x.regions;
  parts = y.parts ∙ x.parts;
  names = λ p n m e. y.names p n m (x.names p n m e);
  points = λ p q h. y.points p q (x.points p q h);
  facts = λ p q n h. y.facts p q n (x.facts p q n h);
}

pub has_still : (a b : Table) → Grows a b → (p q : ℕ) (m : Lock) → HasFact a p q m → HasFact b p q m
has_still a b g p q m has = (has.0, g.facts p q has.0 has.1, g.names p has.0 m has.2)

pub lists_same : (t : Table) → Lists t t
lists_same t = record { stay = λ p q n h. h; fresh = λ p q n h. inl h; less = omega arith }

pub lists_on : (a b c : Table) → Lists a b → Lists b c → Lists a c
lists_on a b c x y = record {
  stay = λ p q n h. y.stay p q n (x.stay p q n h);
  fresh = λ p q n h. ⊎_elim (λ k. ⊎_elim (λ o. inl o) (λ l. inr (y.stay p q n l)) (x.fresh p q n k)) (λ l. inr l) (y.fresh p q n h);
  less = let one = x.less in let two = y.less in omega (arith, one, two);
}

pub adds_same : (t : Table) (these : ℕ → ℕ → Lock → Type 0) → Adds t t these
adds_same t these = record { grows = grows_same t; only = record { facts = λ p q m h. inl h; names = λ p m h. inl h } }

-- what two additions add together is of what either may add
pub adds_on : (a b c : Table) (these those all : ℕ → ℕ → Lock → Type 0) → ((p q : ℕ) (m : Lock) → these p q m → all p q m) → ((p q : ℕ) (m : Lock) → those p q m → all p q m)
    → Adds a b these → Adds b c those → Adds a c all
adds_on a b c these those all left right x y = record {
  grows = grows_on a b c x.grows y.grows;
  only = record {
    facts = λ p q m h.
        ⊎_elim (λ k. ⊎_elim (λ o. inl o) (λ n. inr (left p q m n)) (x.only.facts p q m k)) (λ n. inr (right p q m n)) (y.only.facts p q m h);
    names = λ p m h.
        ⊎_elim (λ k. ⊎_elim (λ o. inl o) (λ n. inr (n.0, left p n.0 m n.1)) (x.only.names p m k)) (λ n. inr (n.0, right p n.0 m n.1)) (y.only.names p m h);
  };
}

pub adds_some_begin : (t : Table) (p q : ℕ) (all : List Lock) → p < length t.locks → HasPoint t p q → IsWhole t → AddsSome t t p q all all
adds_some_begin t p q all there point whole = record { there = there; point = point; whole = whole; adds = adds_same t _; lists = lists_same t; of = λ m h. h; has = λ m h. inl h }

-- one more is taken from the end, and added
pub adds_some_more : (initial now new : Table) (p q : ℕ) (all left rest : List Lock) (lock : Lock) → AddsSome initial now p q all left → left ≡ rest ++ lock ∷ []
    → Adds now new (λ r s m. (r ≡ p) × (s ≡ q) × (m ≡ lock)) → IsWhole new → HasFact new p q lock → Lists now new → AddsSome initial new p q all rest
adds_some_more initial now new p q all left rest lock so is adds whole has lists =
    let in_left : IsOne left lock = subst (λ l. IsOne l lock) (sym is) (one_right rest (lock ∷ []) lock (inl refl)) in
    let of_all = so.of lock in_left in
    record {
      there = subst (λ n. p < n) (sym adds.grows.parts) so.there;
      point = adds.grows.points p q so.point;
      lists = lists_on initial now new so.lists lists;
      whole = whole;
      adds = adds_on initial now new _ _ _ (λ r s m h. h) (λ r s m h. (h.0, h.1, subst (IsOne all) (sym h.2) of_all)) so.adds adds;
      of = λ m h. so.of m (subst (λ l. IsOne l m) (sym is) (one_left rest (lock ∷ []) m h));
      has = λ m h.
          ⊎_elim
          (λ (k : IsOne left m).
          ⊎_elim (λ r. inl r) (λ l. inr (subst (HasFact new p q) (only_one lock m l) has)) (one_either rest (lock ∷ []) m (subst (λ l. IsOne l m) is k)))
          (λ f. inr (has_still now new adds.grows p q m f))
          (so.has m h);
    }
  where
    only_one : (a m : Lock) → IsOne (a ∷ []) m → a ≡ m
    only_one a m (inl e) = e
    only_one a m (inr e) = absurd e

-- the additions so far, and one more that may be refused: nothing is added but locks of the list
pub adds_some_refused : (initial now new : Table) (p q : ℕ) (all left rest : List Lock) (lock : Lock) → AddsSome initial now p q all left → left ≡ rest ++ lock ∷ []
    → Adds now new (λ r s m. (r ≡ p) × (s ≡ q) × (m ≡ lock)) → Adds initial new (λ r s m. (r ≡ p) × (s ≡ q) × IsOne all m)
adds_some_refused initial now new p q all left rest lock so is adds =
    let in_left : IsOne left lock = subst (λ l. IsOne l lock) (sym is) (one_right rest (lock ∷ []) lock (inl refl)) in
    adds_on initial now new _ _ _ (λ r s m h. h) (λ r s m h. (h.0, h.1, subst (IsOne all) (sym h.2) (so.of lock in_left))) so.adds adds

pub adds_some_all : (initial now : Table) (p q : ℕ) (all left : List Lock) → AddsSome initial now p q all left → length left ≡ 0 → (m : Lock) → IsOne all m → HasFact now p q m
adds_some_all initial now p q all [] so none m h = ⊎_elim (λ k. absurd k) (λ f. f) (so.has m h)
adds_some_all initial now p q all (x ∷ left) so none m h = absurd (omega arith)
