-- The locks of a list that a lock covers.
use Rattle.std.proofs.Common.{◌≡◌, ◌↔◌, ◌+◌, ◌<◌, ◌≤◌, ◌⊎◌, ⊎_elim, ℕ, List, [], ◌∷◌, ◌++◌, length, take, get_or, inl, inr, refl, sym, ◌∙◌, subst, arith, zero, suc}
use Rattle.std.specs.declared.cmp.Ordering.TheVariants.{Less}
use Rattle.std.proofs.lemmas.List.{take_all}
use Rattle.asl_code.specs.declared.lock.Lock.{Lock}
use Rattle.asl_lock_expr.specs.Links.{IsOne}
use Rattle.asl_lock_expr.specs.Order.{lock_cmp, AreInOrder}
use Rattle.asl_emitter.proofs.Reducing.{one_at, one_of_more, more_of_one}

-- one of a list with one more at its end
pub one_of_end : (xs : List Lock) (y n : Lock) → IsOne (xs ++ y ∷ []) n → IsOne xs n ⊎ (y ≡ n)
one_of_end [] y n (inl e) = inr e
one_of_end [] y n (inr h) = absurd h
one_of_end (x ∷ xs) y n (inl e) = inl (inl e)
one_of_end (x ∷ xs) y n (inr h) = ⊎_elim (λ o. inl (inr o)) (λ e. inr e) (one_of_end xs y n h)

pub end_of_one : (xs : List Lock) (y n : Lock) → IsOne xs n ⊎ (y ≡ n) → IsOne (xs ++ y ∷ []) n
end_of_one [] y n (inl h) = absurd h
end_of_one [] y n (inr e) = inl e
end_of_one (x ∷ xs) y n (inl (inl e)) = inl e
end_of_one (x ∷ xs) y n (inl (inr h)) = inr (end_of_one xs y n (inl h))
end_of_one (x ∷ xs) y n (inr e) = inr (end_of_one xs y n (inr e))

-- a lock behind a list in order, of which each comes before it
in_order_end : (xs : List Lock) (y : Lock) → AreInOrder xs → ((b : Lock) → IsOne xs b → lock_cmp b y ≡ Less) → AreInOrder (xs ++ y ∷ [])
in_order_end [] y h f = (λ b o. absurd o, tt)
in_order_end (x ∷ xs) y h f = (
  λ b o.
      ⊎_elim (λ k. h.0 b k) (λ (e : y ≡ b). subst (λ (m : Lock). lock_cmp x m ≡ Less) e (f x (inl refl))) (one_of_end xs y b o),
  in_order_end xs y h.1 (λ b o. f b (inr o)),
)

-- in a list in order what stands before a place comes before what stands there
before_place : (all : List Lock) (i : ℕ) (d n : Lock) → i < length all → AreInOrder all → IsOne (take i all) n → lock_cmp n (get_or all i d) ≡ Less
before_place [] i d n lt h o = absurd (omega (arith, lt))
before_place (x ∷ all) zero d n lt h o = absurd o
before_place (x ∷ all) (suc i) d n lt h (inl e) =
    subst (λ (m : Lock). lock_cmp m (get_or all i d) ≡ Less) e (h.0 (get_or all i d) (one_at all i d (omega (arith, lt))))
before_place (x ∷ all) (suc i) d n lt h (inr o) = before_place all i d n (omega (arith, lt)) h.1 o

module _ (Over : Lock → Type 0) (all : List Lock) (i : ℕ) (d lock : Lock) (lt : i < length all) (is : get_or all i d ≡ lock) where
  pub under_more : (old new : List Lock) → new ≡ old ++ lock ∷ [] → Over lock → ((n : Lock) → IsOne old n ↔ (IsOne (take i all) n × Over n))
      → (n : Lock) → IsOne new n ↔ (IsOne (take (i + 1) all) n × Over n)
  under_more old new at over before n = (
    λ h.
        ⊎_elim (λ o. let p = (before n).0 o in (more_of_one all i d n lt (inl p.0), p.1)) (λ (e : lock ≡ n). (more_of_one all i d n lt (inr (is ∙ e)), subst Over e over))
        (one_of_end old lock n (subst (λ (xs : List Lock). IsOne xs n) at h)),
    λ p.
        subst (λ (xs : List Lock). IsOne xs n) (sym at)
        (end_of_one old lock n (⊎_elim (λ o. inl ((before n).1 (o, p.1))) (λ e. inr (sym is ∙ e)) (one_of_more all i d n lt p.0))),
  )

  pub order_more : (old new : List Lock) → new ≡ old ++ lock ∷ [] → ((n : Lock) → IsOne old n ↔ (IsOne (take i all) n × Over n)) → (AreInOrder all → AreInOrder old) → AreInOrder all → AreInOrder new
  order_more old new at before h o =
      subst AreInOrder (sym at)
      (in_order_end old lock (h o) (λ b one. subst (λ (m : Lock). lock_cmp b m ≡ Less) is (before_place all i d b lt o ((before b).0 one).0)))

  pub under_same : (old new : List Lock) → new ≡ old → ¬ Over lock → ((n : Lock) → IsOne old n ↔ (IsOne (take i all) n × Over n)) → (n : Lock) → IsOne new n ↔ (IsOne (take (i + 1) all) n × Over n)
  under_same old new at not before n = (
    λ h. let p = (before n).0 (subst (λ (xs : List Lock). IsOne xs n) at h) in (more_of_one all i d n lt (inl p.0), p.1),
    λ p. subst (λ (xs : List Lock). IsOne xs n) (sym at) (⊎_elim (λ o. (before n).1 (o, p.1)) (λ e. absurd (not (subst Over (sym (sym is ∙ e)) p.1))) (one_of_more all i d n lt p.0)),
  )

pub order_same : (all old new : List Lock) → new ≡ old → (AreInOrder all → AreInOrder old) → AreInOrder all → AreInOrder new
order_same all old new at h o = subst AreInOrder (sym at) (h o)

pub one_taken : (xs : List Lock) (i : ℕ) (n : Lock) → length xs ≤ i → IsOne (take i xs) n ↔ IsOne xs n
one_taken xs i n le = subst (λ (ys : List Lock). IsOne ys n ↔ IsOne xs n) (sym (take_all i xs le)) (λ h. h, λ h. h)

pub under_whole : (Over : Lock → Type 0) (all under : List Lock) (i : ℕ) → length all ≤ i → ((n : Lock) → IsOne under n ↔ (IsOne (take i all) n × Over n)) → (n : Lock) → IsOne under n ↔ (IsOne all n × Over n)
under_whole Over all under i le so n = (
  λ h. let p = (so n).0 h in ((one_taken all i n le).0 p.0, p.1),
  λ p. (so n).1 ((one_taken all i n le).1 p.0, p.1),
)
