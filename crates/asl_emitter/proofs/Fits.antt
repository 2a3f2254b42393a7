-- A fitted list is one, it is short, and what holds of all locks of the set and is passed on to classes and roots holds of its
-- locks.
use Rattle.std.proofs.Common.{◌≡◌, ◌<◌, ◌≤◌, ◌⊎◌, ◌↔◌, ℕ, List, [], ◌∷◌, length, refl, sym, ◌∙◌, subst, inl, inr, arith}
use Rattle.std.specs.List.{flat_map}
use Rattle.asl_code.specs.declared.value.Effect.{Effect}
use Rattle.asl_code.specs.declared.lock.Lock.{Lock}
use Rattle.asl_code.specs.declared.lock.Lock.TheVariants as lock
use Rattle.asl_points_to.specs.Classes.{Classed}
use Rattle.asl_lock_expr.specs.Links.{IsOne}
use Rattle.asl_lock_expr.proofs.Ones.{one_left, one_right, one_either}
use Rattle.asl_lock_expr.proofs.Orders.{one_list}
use Rattle.asl_emitter.specs.Lists.{Locks, IsReduced, as_class, AsClasses, strongest, IsRootFor, IsCoarse, IsFitted}

-- the reduced list of a set is that of each set with the same locks
pub reduced_same : (c : Classed) (f : ℕ) (given other : Locks) (list : List Lock) → ((a : Lock) → given a ↔ other a) → IsReduced c f given list → IsReduced c f other list
reduced_same c f given other list same r = record {
  order = r.order;
  kept = λ a o. (let k = r.kept a o in ((same a).0 k.0, λ b h. k.1 b ((same b).1 h)));
  all = λ a h free. r.all a ((same a).1 h) (λ b g. free b ((same b).0 g));
}

-- and there is one
pub reduced_one : (c : Classed) (f : ℕ) (given other : Locks) (xs ys : List Lock) → ((a : Lock) → given a ↔ other a) → IsReduced c f given xs → IsReduced c f other ys → xs ≡ ys
reduced_one c f given other xs ys same r s =
    let t = reduced_same c f given other xs same r in
    one_list xs ys t.order s.order (λ a. (λ o. (let k = t.kept a o in s.all a k.0 k.1), λ o. (let k = s.kept a o in t.all a k.0 k.1)))

root_one : (most : ℕ) (coarse xs ys : List Lock) → IsRootFor most coarse xs → IsRootFor most coarse ys → xs ≡ ys
root_one most coarse xs ys (inl p) (inl q) = p.1 ∙ sym q.1
root_one most coarse xs ys (inl p) (inr q) = let m = p.0 in let n = q.0 in absurd (omega (arith, m, n))
root_one most coarse xs ys (inr p) (inl q) = let m = p.0 in let n = q.0 in absurd (omega (arith, m, n))
root_one most coarse xs ys (inr p) (inr q) = p.1 ∙ sym q.1

coarse_one : (c : Classed) (f most : ℕ) (fine xs ys : List Lock) → IsCoarse c f most fine xs → IsCoarse c f most fine ys → xs ≡ ys
coarse_one c f most fine xs ys p q =
    let same = reduced_one c f (AsClasses c f fine) (AsClasses c f fine) p.coarse q.coarse (λ a. (λ x. x, λ x. x)) p.reduced q.reduced in
    root_one most q.coarse xs ys (subst (λ (zs : List Lock). IsRootFor most zs xs) same p.is) q.is

either_one : (c : Classed) (f most : ℕ) (fine xs ys : List Lock) → ((length fine ≤ most) × (xs ≡ fine)) ⊎ ((most < length fine) × IsCoarse c f most fine xs) →
    ((length fine ≤ most) × (ys ≡ fine)) ⊎ ((most < length fine) × IsCoarse c f most fine ys) → xs ≡ ys
either_one c f most fine xs ys (inl p) (inl q) = p.1 ∙ sym q.1
either_one c f most fine xs ys (inl p) (inr q) = let m = p.0 in let n = q.0 in absurd (omega (arith, m, n))
either_one c f most fine xs ys (inr p) (inl q) = let m = p.0 in let n = q.0 in absurd (omega (arith, m, n))
either_one c f most fine xs ys (inr p) (inr q) = coarse_one c f most fine xs ys p.1 q.1

-- the fitted list of a set is one, and depends on the set alone
pub fitted_one : (c : Classed) (f most : ℕ) (given other : Locks) (xs ys : List Lock) → ((a : Lock) → given a ↔ other a) → IsFitted c f most given xs → IsFitted c f most other ys → xs ≡ ys
fitted_one c f most given other xs ys same p q =
    let e = reduced_one c f given other p.fine q.fine same p.reduced q.reduced in
    either_one c f most q.fine xs ys (subst (λ (zs : List Lock). ((length zs ≤ most) × (xs ≡ zs)) ⊎ ((most < length zs) × IsCoarse c f most zs xs)) e p.is) q.is

root_short : (most : ℕ) (coarse list : List Lock) → 0 < most → IsRootFor most coarse list → length list ≤ most
root_short most coarse list some (inl p) = subst (λ (xs : List Lock). length xs ≤ most) (sym p.1) p.0
root_short most coarse list some (inr p) = subst (λ (xs : List Lock). length xs ≤ most) (sym p.1) (omega (arith, some))

-- a fitted list has at most so many locks
pub fitted_short : (c : Classed) (f most : ℕ) (given : Locks) (list : List Lock) → 0 < most → IsFitted c f most given list → length list ≤ most
fitted_short c f most given list some p =
    elim p.is [
      | inl few ↦ subst (λ (xs : List Lock). length xs ≤ most) (sym few.1) few.0
      | inr many ↦ root_short most many.1.coarse list some many.1.is
    ]

-- what holds of the set, and passes on to classes and to roots, holds of the fitted list
pub fitted_all : (P : Lock → Type 0) (c : Classed) (f most : ℕ) (given : Locks) (list : List Lock) → ((a : Lock) → given a → P a) →
    ((a b : Lock) → P a → IsOne (as_class c f a) b → P b) → ((e : Effect) → P (lock.Root e)) → IsFitted c f most given list → (a : Lock) → IsOne list a → P a
fitted_all P c f most given list all classes roots p a o =
    elim p.is [
      | inl few ↦ fine a (subst (λ (xs : List Lock). IsOne xs a) few.1 o)
      | inr many ↦ elim many.1.is [
        | inl few ↦ coarse many.1 a (subst (λ (xs : List Lock). IsOne xs a) few.1 o)
        | inr root ↦ elim (subst (λ (xs : List Lock). IsOne xs a) root.1 o) [ inl e ↦ subst P e (roots _) | inr z ↦ absurd z ]
      ]
    ]
  where
    fine : (b : Lock) → IsOne p.fine b → P b
    fine b h = all b (p.reduced.kept b h).0

    coarse : (q : IsCoarse c f most p.fine list) (b : Lock) → IsOne q.coarse b → P b
    coarse q b h = let from = (q.reduced.kept b h).0 in classes from.0 b (fine from.0 from.1) from.2

-- what the locks of a list become, in one list
flat_as : (c : Classed) (f : ℕ) (fine : List Lock) (a : Lock) → IsOne (flat_map (as_class c f) fine) a → AsClasses c f fine a
flat_as c f [] a o = absurd o
flat_as c f (m ∷ ms) a o =
    elim (one_either (as_class c f m) (flat_map (as_class c f) ms) a o) [
      | inl p ↦ (m, inl refl, p)
      | inr q ↦ (let r = flat_as c f ms a q in (r.0, inr r.1, r.2))
    ]

as_flat : (c : Classed) (f : ℕ) (fine : List Lock) (a b : Lock) → IsOne fine b → IsOne (as_class c f b) a → IsOne (flat_map (as_class c f) fine) a
as_flat c f [] a b o p = absurd o
as_flat c f (m ∷ ms) a b (inl e) p = one_left _ _ a (subst (λ (x : Lock). IsOne (as_class c f x) a) (sym e) p)
as_flat c f (m ∷ ms) a b (inr o) p = one_right (as_class c f m) _ a (as_flat c f ms a b o p)

pub coarse_reduced : (c : Classed) (f : ℕ) (fine all list : List Lock) → all ≡ flat_map (as_class c f) fine → IsReduced c f (IsOne all) list → IsReduced c f (AsClasses c f fine) list
coarse_reduced c f fine all list e r =
    reduced_same c f (IsOne all) (AsClasses c f fine) list (λ a. (
      λ o. flat_as c f fine a (subst (λ (xs : List Lock). IsOne xs a) e o),
      λ h. subst (λ (xs : List Lock). IsOne xs a) (sym e) (as_flat c f fine a h.0 h.1 h.2),
    )) r

-- the two ways in which the step with classes ends
pub kept_coarse : (c : Classed) (f most : ℕ) (fine all list : List Lock) → all ≡ flat_map (as_class c f) fine → IsReduced c f (IsOne all) list → length list ≤ most → IsCoarse c f most fine list
kept_coarse c f most fine all list e r few = record { coarse = list; reduced = coarse_reduced c f fine all list e r; is = inl (few, refl) }

pub root_coarse : (c : Classed) (f most : ℕ) (fine all coarse list : List Lock) → all ≡ flat_map (as_class c f) fine → IsReduced c f (IsOne all) coarse → most < length coarse → list ≡ lock.Root (strongest coarse) ∷ [] → IsCoarse c f most fine list
root_coarse c f most fine all coarse list e r many is = record { coarse = coarse; reduced = coarse_reduced c f fine all coarse e r; is = inr (many, is) }

-- the fitted list of a set is that of each set with the same locks
pub fitted_same : (c : Classed) (f most : ℕ) (given other : Locks) (list : List Lock) → ((a : Lock) → given a ↔ other a) → IsFitted c f most given list → IsFitted c f most other list
fitted_same c f most given other list same p = record { fine = p.fine; reduced = reduced_same c f given other p.fine same p.reduced; is = p.is }
