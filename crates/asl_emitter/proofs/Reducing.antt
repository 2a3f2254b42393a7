-- The locks of a list that are kept, from the front on.
use Rattle.std.proofs.Common.{◌≡◌, ◌⊎◌, ⊎_elim, ◌↔◌, ◌+◌, ◌<◌, ℕ, zero, suc, List, [], ◌∷◌, ◌++◌, take, length, get_or, refl, sym, ◌∙◌, subst, inl, inr, arith}
use Rattle.std.proofs.lemmas.List.{take_more}
use Rattle.asl_code.specs.declared.lock.Lock.{Lock}
use Rattle.asl_lock_expr.specs.Links.{IsOne}
use Rattle.std.specs.declared.cmp.Ordering.TheVariants.{Less}
use Rattle.asl_lock_expr.specs.Order.{lock_cmp, AreInOrder}
use Rattle.asl_lock_expr.proofs.Ones.{one_left, one_right, one_either}
use Rattle.asl_points_to.specs.Classes.{Classed}
use Rattle.asl_emitter.specs.Lists.{IsFree, IsReduced}

-- one of the first locks and of the next
pub one_of_more : (xs : List Lock) (n : ℕ) (d a : Lock) → n < length xs → IsOne (take (n + 1) xs) a → IsOne (take n xs) a ⊎ (get_or xs n d ≡ a)
one_of_more xs n d a lt o =
    elim (one_either (take n xs) (get_or xs n d ∷ []) a (subst (λ (ys : List Lock). IsOne ys a) (take_more xs n d lt) o)) [
      | inl p ↦ inl p
      | inr q ↦ elim q [ inl e ↦ inr e | inr z ↦ absurd z ]
    ]

pub more_of_one : (xs : List Lock) (n : ℕ) (d a : Lock) → n < length xs → IsOne (take n xs) a ⊎ (get_or xs n d ≡ a) → IsOne (take (n + 1) xs) a
more_of_one xs n d a lt (inl p) = subst (λ (ys : List Lock). IsOne ys a) (sym (take_more xs n d lt)) (one_left (take n xs) _ a p)
more_of_one xs n d a lt (inr e) = subst (λ (ys : List Lock). IsOne ys a) (sym (take_more xs n d lt)) (one_right (take n xs) _ a (inl e))

pub one_at : (xs : List Lock) (n : ℕ) (d : Lock) → n < length xs → IsOne xs (get_or xs n d)
one_at [] n d lt = absurd (omega (arith, lt))
one_at (x ∷ xs) zero d lt = inl refl
one_at (x ∷ xs) (suc n) d lt = inr (one_at xs n d (omega (arith, lt)))

-- a list in order, with a lock behind it that comes after all of it
pub order_more : (xs : List Lock) (a : Lock) → AreInOrder xs → ((b : Lock) → IsOne xs b → lock_cmp b a ≡ Less) → AreInOrder (xs ++ a ∷ [])
order_more [] a all less = ((λ b o. absurd o), tt)
order_more (x ∷ xs) a all less = (
  (λ b o. ⊎_elim (λ p. all.0 b p) (λ q. ⊎_elim (λ is. subst (λ (y : Lock). lock_cmp x y ≡ Less) is (less x (inl refl))) (λ no. absurd no) q) (one_either xs (a ∷ []) b o)),
  order_more xs a all.1 (λ b o. less b (inr o)),
)

pub ones_more : (xs : List Lock) (a b : Lock) → IsOne (xs ++ a ∷ []) b ↔ (IsOne xs b ⊎ (a ≡ b))
ones_more xs a b = (
  λ o. ⊎_elim (λ p. inl p) (λ q. ⊎_elim (λ is. inr is) (λ no. absurd no) q) (one_either xs (a ∷ []) b o),
  λ h. ⊎_elim (λ p. one_left xs (a ∷ []) b p) (λ is. one_right xs (a ∷ []) b (inl is)) h,
)

-- the first locks of a list in order come before the next
pub first_less : (xs : List Lock) (n : ℕ) (d b : Lock) → AreInOrder xs → n < length xs → IsOne (take n xs) b → lock_cmp b (get_or xs n d) ≡ Less
first_less [] n d b all lt o = absurd (omega (arith, lt))
first_less (x ∷ xs) zero d b all lt o = absurd o
first_less (x ∷ xs) (suc n) d b all lt o = elim o [
  | inl is ↦ subst (λ (y : Lock). lock_cmp y (get_or xs n d) ≡ Less) is (all.0 (get_or xs n d) (one_at xs n d (omega (arith, lt))))
  | inr later ↦ first_less xs n d b all.1 (omega (arith, lt)) later
]

-- what was kept and the next lock, which is free
pub kept_more : (c : Classed) (f : ℕ) (given old new : List Lock) (n : ℕ) (d lock : Lock) → n < length given → get_or given n d ≡ lock →
    IsFree c f (IsOne given) lock → ((a : Lock) → IsOne new a ↔ (IsOne old a ⊎ (lock ≡ a))) →
    ((a : Lock) → IsOne old a ↔ (IsOne (take n given) a × IsFree c f (IsOne given) a)) →
    (a : Lock) → IsOne new a ↔ (IsOne (take (n + 1) given) a × IsFree c f (IsOne given) a)
kept_more c f given old new n d lock lt is free placed kept a = (
  λ o. elim ((placed a).0 o) [
    | inl p ↦ (let k = (kept a).0 p in (more_of_one given n d a lt (inl k.0), k.1))
    | inr e ↦ (more_of_one given n d a lt (inr (is ∙ e)), subst (IsFree c f (IsOne given)) e free)
  ],
  λ h. elim (one_of_more given n d a lt h.0) [
    | inl p ↦ (placed a).1 (inl ((kept a).1 (p, h.1)))
    | inr e ↦ (placed a).1 (inr (sym is ∙ e))
  ],
)

-- the next lock is not free
pub kept_same : (c : Classed) (f : ℕ) (given old : List Lock) (n : ℕ) (d lock : Lock) → n < length given → get_or given n d ≡ lock →
    (IsFree c f (IsOne given) lock → ⊥) →
    ((a : Lock) → IsOne old a ↔ (IsOne (take n given) a × IsFree c f (IsOne given) a)) →
    (a : Lock) → IsOne old a ↔ (IsOne (take (n + 1) given) a × IsFree c f (IsOne given) a)
kept_same c f given old n d lock lt is absorbed kept a = (
  λ o. (let k = (kept a).0 o in (more_of_one given n d a lt (inl k.0), k.1)),
  λ h. elim (one_of_more given n d a lt h.0) [
    | inl p ↦ (kept a).1 (p, h.1)
    | inr e ↦ absurd (absorbed (subst (IsFree c f (IsOne given)) (sym (sym is ∙ e)) h.1))
  ],
)

-- what is kept of a whole list is its reduced list
pub reduced_of : (c : Classed) (f : ℕ) (given list : List Lock) → AreInOrder list → ((a : Lock) → IsOne list a ↔ (IsOne given a × IsFree c f (IsOne given) a)) → IsReduced c f (IsOne given) list
reduced_of c f given list order kept = record { order = order; kept = λ a o. (kept a).0 o; all = λ a g free. (kept a).1 (g, free) }

-- where none of a list in order absorbs another, it is its reduced list
pub all_kept : (c : Classed) (f : ℕ) (given : List Lock) → AreInOrder given → ((a : Lock) → IsOne given a → IsFree c f (IsOne given) a) → IsReduced c f (IsOne given) given
all_kept c f given order free = record { order = order; kept = λ a o. (o, free a o); all = λ a g f. g }
