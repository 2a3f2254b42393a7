-- A set of locks of which there are not too many different ones has a list, and so a fitted one.
use Rattle.std.proofs.Common.{◌≡◌, ◌≢◌, ◌⊎◌, ◌↔◌, ◌<◌, ◌≤◌, ℕ, zero, suc, List, [], ◌∷◌, length, refl, sym, subst, inl, inr, arith}
use Rattle.std.specs.Prelude.{All}
use Rattle.std.specs.List.{AllPairs, flat_map}
use Rattle.std.proofs.lemmas.List.Elements.{All-nil, All-cons}
use Rattle.std.proofs.lemmas.List.Kept.{AllPairs-cons}
use Rattle.asl_code.specs.declared.lock.Lock.{Lock}
use Rattle.asl_code.specs.declared.lock.Lock.TheVariants as lock
use Rattle.asl_points_to.specs.Classes.{Classed}
use Rattle.asl_lock_expr.specs.Links.{IsOne}
use Rattle.asl_lock_expr.specs.Order.{AreInOrder}
use Rattle.asl_lock_expr.specs.Placing.{placed}
use Rattle.asl_lock_expr.proofs.Orders.{placed_ones, placed_from, placed_in_order}
use Rattle.asl_emitter.specs.Lists.{Locks, IsFree, IsReduced, as_class, strongest, IsCoarse, IsFitted}
use Rattle.asl_emitter.proofs.Absorbing.{tell_lock}
use Rattle.asl_emitter.proofs.Reducing.{reduced_of}
use Rattle.asl_emitter.proofs.Fits.{reduced_same, kept_coarse, root_coarse}
use Rattle.asl_theorems.proofs.Surely.{Surely, surely, then, mapped, either}

tell_one : (xs : List Lock) (a : Lock) → IsOne xs a ⊎ (IsOne xs a → ⊥)
tell_one [] a = inr (λ o. o)
tell_one (x ∷ xs) a =
    elim (tell_lock x a) [
      | inl e ↦ inl (inl e)
      | inr apart ↦ elim (tell_one xs a) [
        | inl o ↦ inl (inr o)
        | inr none ↦ inr (λ o. elim o [ inl e ↦ apart e | inr p ↦ none p ])
      ]
    ]

-- the list has the locks of the set, and no others
abbrev pub Lists : Locks → List Lock → Type 0
Lists K xs = (a : Lock) → IsOne xs a ↔ K a

-- so many different locks of the set
pub record Different (K : Locks) (n : ℕ) : Type 0 where
  pub locks : List Lock
  pub count : length locks ≡ n
  pub apart : AllPairs (λ a b. a ≢ b) locks
  pub each : (a : Lock) → IsOne locks a → K a

all_other : (xs : List Lock) (x : Lock) → (IsOne xs x → ⊥) → All (λ a. x ≢ a) xs
all_other [] x none = All-nil (λ a. x ≢ a)
all_other (y ∷ ys) x none = All-cons (λ a. x ≢ a) y ys (λ e. none (inl (sym e))) (all_other ys x (λ o. none (inr o)))

module _ (K : Locks) where
  another : (xs : List Lock) → ((a : Lock) → IsOne xs a → K a) → (Lists K xs → ⊥) → Surely ((a : Lock) × K a × (IsOne xs a → ⊥))
  another xs each not_all none =
      not_all (λ a. (each a, λ k. elim (tell_one xs a) [ inl o ↦ o | inr out ↦ absurd (none (a, k, out)) ]))

  so_many : (((xs : List Lock) × Lists K xs) → ⊥) → (n : ℕ) → Surely (Different K n)
  so_many none zero = surely (record { locks = []; count = refl; apart = λ i j d lt low. absurd (omega (arith, low)); each = λ a o. absurd o })
  so_many none (suc n) =
      then (so_many none n) (λ d. mapped (another d.locks d.each (λ all. none (d.locks, all))) (λ x. record {
        locks = x.0 ∷ d.locks;
        count = (let whole = d.count in omega (arith, whole));
        apart = AllPairs-cons (λ a b. a ≢ b) x.0 d.locks (all_other d.locks x.0 x.2) d.apart;
        each = λ a o. elim o [ inl e ↦ subst K e x.1 | inr p ↦ d.each a p ];
      }))

  pub surely_listed : (n : ℕ) → (Different K n → ⊥) → Surely ((xs : List Lock) × Lists K xs)
  surely_listed n few none = so_many none n few

-- the locks of a list of which something holds, in order
sorted : (P : Locks) (xs : List Lock) → Surely ((ys : List Lock) × AreInOrder ys × ((a : Lock) → IsOne ys a ↔ (IsOne xs a × P a)))
sorted P [] = surely ([], tt, λ a. (λ o. absurd o, λ o. o.0))
sorted P (x ∷ xs) = then (sorted P xs) (λ ys. mapped (either (P x)) (λ d. one_more ys.0 ys.1 ys.2 d))
  where
    one_more : (ys : List Lock) → AreInOrder ys → ((a : Lock) → IsOne ys a ↔ (IsOne xs a × P a)) → P x ⊎ (P x → ⊥) → (zs : List Lock) × AreInOrder zs × ((a : Lock) → IsOne zs a ↔ (IsOne (x ∷ xs) a × P a))
    one_more ys order each (inl p) = (
      placed ys x,
      placed_in_order ys x order,
      λ a. (
        λ o. elim (placed_ones ys x a o) [
          | inl q ↦ (let k = (each a).0 q in (inr k.0, k.1))
          | inr e ↦ (inl e, subst P e p)
        ],
        λ o. elim o.0 [
          | inl e ↦ placed_from ys x a (inr e)
          | inr q ↦ placed_from ys x a (inl ((each a).1 (q, o.1)))
        ],
      ),
    )
    one_more ys order each (inr bad) = (
      ys,
      order,
      λ a. (
        λ o. (let k = (each a).0 o in (inr k.0, k.1)),
        λ o. elim o.0 [
          | inl e ↦ absurd (bad (subst P (sym e) o.1))
          | inr q ↦ (each a).1 (q, o.1)
        ],
      ),
    )

surely_reduced : (c : Classed) (f : ℕ) (K : Locks) (xs : List Lock) → Lists K xs → Surely ((ys : List Lock) × IsReduced c f K ys)
surely_reduced c f K xs lists =
    mapped (sorted (IsFree c f (IsOne xs)) xs) (λ ys. (ys.0, reduced_same c f (IsOne xs) K ys.0 lists (reduced_of c f xs ys.0 ys.1 ys.2)))

few_or_many : (m n : ℕ) → (m ≤ n) ⊎ (n < m)
few_or_many m n = grind arith

coarse_or_root : (c : Classed) (f most : ℕ) (fine coarse : List Lock) → IsReduced c f (IsOne (flat_map (as_class c f) fine)) coarse → (length coarse ≤ most) ⊎ (most < length coarse) → (list : List Lock) × IsCoarse c f most fine list
coarse_or_root c f most fine coarse r (inl few) = (coarse, kept_coarse c f most fine (flat_map (as_class c f) fine) coarse refl r few)
coarse_or_root c f most fine coarse r (inr many) =
    (lock.Root (strongest coarse) ∷ [], root_coarse c f most fine (flat_map (as_class c f) fine) coarse (lock.Root (strongest coarse) ∷ []) refl r many refl)

-- a set that has a list has a fitted one
pub surely_fitted : (c : Classed) (f most : ℕ) (K : Locks) (xs : List Lock) → Lists K xs → Surely ((list : List Lock) × IsFitted c f most K list)
surely_fitted c f most K xs lists = then (surely_reduced c f K xs lists) (λ fine. by_length fine.0 fine.1 (few_or_many (length fine.0) most))
  where
    by_length : (fine : List Lock) → IsReduced c f K fine → (length fine ≤ most) ⊎ (most < length fine) → Surely ((list : List Lock) × IsFitted c f most K list)
    by_length fine r (inl few) = surely (fine, record { fine = fine; reduced = r; is = inl (few, refl) })
    by_length fine r (inr many) =
        mapped (surely_reduced c f (IsOne (flat_map (as_class c f) fine)) (flat_map (as_class c f) fine) (λ a. (λ o. o, λ o. o))) (λ coarse.
        (let l = coarse_or_root c f most fine coarse.0 coarse.1 (few_or_many (length coarse.0) most) in
        (l.0, record { fine = fine; reduced = r; is = inr (many, l.1) })))
