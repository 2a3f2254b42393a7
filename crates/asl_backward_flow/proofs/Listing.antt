-- Lists of what the places of a list say, one after the other.
use Rattle.std.proofs.Common.{◌≡◌, ◌↔◌, ◌⊎◌, ⊎_elim, ℕ, zero, suc, ◌+◌, ◌<◌, ◌≤◌, List, [], ◌∷◌, Bool, false, Some, Result, Ok, Err, OnOk, IsTrue, length, map, take, drop, slice_get, inl, inr, refl, ap, sym, subst, ◌∙◌, arith}
use Rattle.std.specs.List.{Contains}
use Rattle.std.proofs.lemmas.Option.{slice_get_within, slice_get-get_or, get_or_from_slice_get}
use Rattle.asl_code.specs.declared.lock.Lock.{Lock}
use Rattle.asl_lower.specs.Regions.{Region, Body, Inside}
use Rattle.asl_lock_expr.specs.Links.{IsOne}
use Rattle.asl_lock_expr.specs.Order.{AreInOrder}
use Rattle.asl_backward_flow.specs.declared.region.Region as code
use Rattle.asl_backward_flow.specs.declared.region.Region.TheVariants as variant
use Rattle.asl_backward_flow.specs.declared.region_needs.RegionNeeds as code_part
use Rattle.asl_backward_flow.specs.Needed.{RegionNeeds, IsInNeeds, IsTold, region_of}
use Rattle.asl_backward_flow.specs.Found.{IsAt, IsNamed, list_at}
use Rattle.asl_backward_flow.specs.Parts.{part, needs_from, IsNumbered, IsToldAt, ListsBelow, AreAtTheirNumbers}
use Rattle.asl_lane_sets.specs.NumberSet.{IsIn}
use Rattle.asl_backward_flow.proofs.Sets.{some_same}
use Rattle.asl_backward_flow.proofs.SpanLaws.{below_or_at}
use Rattle.asl_backward_flow.proofs.SetNeeds.{needs_at, at_needs}

module _ (each : ℕ → Lock → Type 0) (first : List Lock) where
  pub lists_begin : ListsBelow each 0 first first
  lists_begin m = (λ h. inl h, λ h. ⊎_elim (λ o. o) (λ k. absurd (omega (arith, k.1))) h)

  pub lists_more : (i : ℕ) (now new : List Lock) → ListsBelow each i first now → ((m : Lock) → IsOne new m ↔ (IsOne now m ⊎ each i m)) → ListsBelow each (i + 1) first new
  lists_more i now new so step m = (
    λ h. ⊎_elim (λ o. ⊎_elim (λ f. inl f) (λ k. inr (k.0, omega (arith, k.1), k.2)) ((so m).0 o)) (λ e. inr (i, omega arith, e)) ((step m).0 h),
    λ h.
        ⊎_elim (λ f. (step m).1 (inl ((so m).1 (inl f))))
        (λ (k : (j : ℕ) × (j < i + 1) × each j m).
        ⊎_elim (λ lt. (step m).1 (inl ((so m).1 (inr (k.0, lt, k.2))))) (λ (e : k.0 ≡ i). (step m).1 (inr (subst (λ j. each j m) e k.2))) (below_or_at k.0 i k.1))
        h,
  )

  pub lists_skip : (i : ℕ) (now : List Lock) → ListsBelow each i first now → ((m : Lock) → each i m → ⊥) → ListsBelow each (i + 1) first now
  lists_skip i now so none = lists_more i now now so (λ m. (λ h. inl h, λ h. ⊎_elim (λ o. o) (λ e. absurd (none m e)) h))

-- the lock of one more number
pub number_more : (locks : List Lock) (numbers : List ℕ) (i n : ℕ) → slice_get numbers i ≡ Some n → (now new : List Lock) → ((m : Lock) → IsOne new m ↔ (IsOne now m ⊎ (slice_get locks n ≡ Some m)))
    → (m : Lock) → IsOne new m ↔ (IsOne now m ⊎ IsNumbered locks numbers i m)
number_more locks numbers i n at now new step m = (
  λ h. ⊎_elim (λ o. inl o) (λ e. inr (n, at, e)) ((step m).0 h),
  λ h. ⊎_elim (λ o. (step m).1 (inl o)) (λ (k : IsNumbered locks numbers i m). (step m).1 (inr (ap (slice_get locks) (some_same (sym at ∙ k.1)) ∙ k.2))) h,
)

-- the locks of all numbers of a set
pub numbers_all : (locks : List Lock) (numbers : List ℕ) (set : List Bool) (end : ℕ) (first new : List Lock) → ((k : ℕ) → Contains numbers k ↔ IsIn set k) → length numbers ≤ end → ListsBelow (IsNumbered locks numbers) end first new
    → (m : Lock) → IsOne new m ↔ (IsOne first m ⊎ IsNamed locks set m)
numbers_all locks numbers set end first new tells le so m = (
  λ h.
      ⊎_elim
      (λ o. inl o)
      (λ k.
      let n = k.2.0 in
      let there = k.2.1 in
      inr (n, (tells n).0 (k.0, slice_get_within numbers k.0 n there, get_or_from_slice_get numbers k.0 n n there), k.2.2))
      ((so m).0 h),
  λ h.
      ⊎_elim
      (λ o. (so m).1 (inl o))
      (λ (k : IsNamed locks set m).
      let c = (tells k.0).1 k.1 in
      let lt = c.1 in
      (so m).1 (inr (c.0, omega (arith, lt, le), (k.0, slice_get-get_or numbers c.0 k.0 c.1 ∙ ap Some c.2, k.2))))
      h,
)

-- what a region needs at a pc is what the set of the pc says
pub of_part : (d : code_part.RegionNeeds) (q : ℕ) (m : Lock) → IsInNeeds (part d) q m → (k : ℕ) × (q ≡ d.first + k) × IsNamed d.locks.keys (list_at d.needs.items k) m
of_part d q m h = let at = needs_at d.needs.items d.first q h.0 h.1 h.2 in (at.0, at.1, (h.0, at.2, h.3))

pub part_of : (d : code_part.RegionNeeds) (k : ℕ) (m : Lock) → IsNamed d.locks.keys (list_at d.needs.items k) m → IsInNeeds (part d) (d.first + k) m
part_of d k m h = let at = at_needs d.needs.items d.first k h.0 (d.first + k) refl h.1 in (h.0, at.0, at.1, h.2)

-- the set of a pc, which may be empty
pub part_locks : (d : code_part.RegionNeeds) (q k : ℕ) (set : List Bool) (now new : List Lock) → q ≡ d.first + k → list_at d.needs.items k ≡ set → ((m : Lock) → IsOne new m ↔ (IsOne now m ⊎ IsNamed d.locks.keys set m))
    → (m : Lock) → IsOne new m ↔ (IsOne now m ⊎ IsInNeeds (part d) q m)
part_locks d q k set now new at is step m = (
  λ h. ⊎_elim (λ o. inl o) (λ e. inr (subst (λ x. IsInNeeds (part d) x m) (sym at) (part_of d k m (subst (λ s. IsNamed d.locks.keys s m) (sym is) e)))) ((step m).0 h),
  λ h.
      ⊎_elim
      (λ o. (step m).1 (inl o))
      (λ e.
      let of = of_part d q m e in
      let place = of.1 in
      let same : of.0 ≡ k = omega (arith, place, at) in
      (step m).1 (inr (subst (λ s. IsNamed d.locks.keys s m) is (subst (λ j. IsNamed d.locks.keys (list_at d.needs.items j) m) same of.2))))
      h,
)

pub part_locks_ok : {E : Type 0} (d : code_part.RegionNeeds) (q k : ℕ) (set : List Bool) (now new : List Lock) → q ≡ d.first + k → list_at d.needs.items k ≡ set → (result : Result Unit E)
    → OnOk result ((m : Lock) → IsOne new m ↔ (IsOne now m ⊎ IsNamed d.locks.keys set m)) → OnOk result ((m : Lock) → IsOne new m ↔ (IsOne now m ⊎ IsInNeeds (part d) q m))
part_locks_ok d q k set now new at is (Ok u) step = part_locks d q k set now new at is step
part_locks_ok d q k set now new at is (Err e) step = tt

-- whether the set of a pc, which may be empty, has a number
module _ (d : code_part.RegionNeeds) (q n : ℕ) where
  pub need_in : (b : Bool) (k : ℕ) (set : List Bool) → q ≡ d.first + k → list_at d.needs.items k ≡ set → (IsTrue b ↔ IsIn set n) → IsTrue b ↔ IsAt (needs_from d.first d.needs.items) (q, n)
  need_in b k set at is tells = (
    λ h. at_needs d.needs.items d.first k n q at (subst (λ s. IsIn s n) (sym is) (tells.0 h)),
    λ h.
        let of = needs_at d.needs.items d.first q n h.0 h.1 in
        let place = of.1 in
        let same : of.0 ≡ k = omega (arith, place, at) in
        tells.1 (subst (λ s. IsIn s n) is (subst (λ j. IsIn (list_at d.needs.items j) n) same of.2)),
  )

  pub need_nowhere : ((k : ℕ) → q ≡ d.first + k → list_at d.needs.items k ≡ []) → IsTrue false ↔ IsAt (needs_from d.first d.needs.items) (q, n)
  need_nowhere none = (λ h. absurd (differ h), λ h. let of = needs_at d.needs.items d.first q n h.0 h.1 in absurd (nothing n (subst (λ s. IsIn s n) (none of.0 of.1) of.2)))
    where
      nothing : (i : ℕ) → IsIn [] i → ⊥
      nothing i e = cc

      differ : IsTrue false → ⊥
      differ e = cc

-- no set is at the pc
pub part_none : (d : code_part.RegionNeeds) (q : ℕ) (now : List Lock) → ((k : ℕ) → q ≡ d.first + k → list_at d.needs.items k ≡ []) → (m : Lock) → IsOne now m ↔ (IsOne now m ⊎ IsInNeeds (part d) q m)
part_none d q now none m = (
  λ h. inl h,
  λ h.
      ⊎_elim
      (λ o. o)
      (λ e. let of = of_part d q m e in absurd (nothing of.2.0 (subst (λ s. IsIn s of.2.0) (none of.0 of.1) of.2.1)))
      h,
)
  where
    nothing : (i : ℕ) → IsIn [] i → ⊥
    nothing i e = cc

-- a part of the region
pub part_here : (parts : List RegionNeeds) (r : Region) (pc i : ℕ) (p : RegionNeeds) → slice_get parts i ≡ Some p → p.region ≡ r → (now new : List Lock) → ((m : Lock) → IsOne new m ↔ (IsOne now m ⊎ IsInNeeds p pc m))
    → (m : Lock) → IsOne new m ↔ (IsOne now m ⊎ IsToldAt parts r pc i m)
part_here parts r pc i p at same now new step m = (
  λ h. ⊎_elim (λ o. inl o) (λ e. inr (p, at, same, e)) ((step m).0 h),
  λ h. ⊎_elim (λ o. (step m).1 (inl o)) (λ (k : IsToldAt parts r pc i m). (step m).1 (inr (subst (λ (q : RegionNeeds). IsInNeeds q pc m) (some_same (sym k.1 ∙ at)) k.3))) h,
)

pub part_elsewhere : (parts : List RegionNeeds) (r : Region) (pc i : ℕ) (p : RegionNeeds) → slice_get parts i ≡ Some p → ¬ (p.region ≡ r) → (m : Lock) → IsToldAt parts r pc i m → ⊥
part_elsewhere parts r pc i p at not m k = not (ap (λ (q : RegionNeeds). q.region) (some_same (sym at ∙ k.1)) ∙ k.2)

pub parts_all : (parts : List RegionNeeds) (r : Region) (pc end : ℕ) (locks : List Lock) → length parts ≤ end → ListsBelow (IsToldAt parts r pc) end [] locks → (m : Lock) → IsOne locks m ↔ IsTold parts r pc m
parts_all parts r pc end locks le so m = (
  λ h. ⊎_elim (λ o. absurd o) (λ k. (k.0, k.2.0, k.2.1, k.2.2, k.2.3)) ((so m).0 h),
  λ (k : IsTold parts r pc m).
      let lt = slice_get_within parts k.0 k.1 k.2 in
      (so m).1 (inr (k.0, omega (arith, lt, le), (k.1, k.2, k.3, k.4))),
)

-- where the part of a section stands at the section's number, that part alone says all that is said of the section
pub placed_told : (xs : List code_part.RegionNeeds) (r : Region) (n pc : ℕ) (m : Lock) → r ≡ Inside n → AreAtTheirNumbers (map part xs)
    → IsTold (map part (take 1 (drop n xs))) r pc m ↔ IsTold (map part xs) r pc m
placed_told xs r n pc m is placed = (
  λ (h : IsTold (map part (take 1 (drop n xs))) r pc m). (n, h.1, one_at n xs h.0 h.1 h.2, h.3, h.4),
  λ (h : IsTold (map part xs) r pc m).
      let same : h.0 ≡ n = placed h.0 n h.1 h.2 (h.3 ∙ is) in
      (0, h.1, at_one n xs h.1 (ap (slice_get (map part xs)) (sym same) ∙ h.2), h.3, h.4),
)
  where
    one_at : (n : ℕ) (xs : List code_part.RegionNeeds) (k : ℕ) (p : RegionNeeds) → slice_get (map part (take 1 (drop n xs))) k ≡ Some p → slice_get (map part xs) n ≡ Some p
    one_at zero [] k p e = absurd cc
    one_at zero (y ∷ ys) zero p e = e
    one_at zero (y ∷ ys) (suc k) p e = absurd cc
    one_at (suc n) [] k p e = absurd cc
    one_at (suc n) (y ∷ ys) k p e = one_at n ys k p e

    at_one : (n : ℕ) (xs : List code_part.RegionNeeds) (p : RegionNeeds) → slice_get (map part xs) n ≡ Some p → slice_get (map part (take 1 (drop n xs))) 0 ≡ Some p
    at_one zero [] p e = absurd cc
    at_one zero (y ∷ ys) p e = e
    at_one (suc n) [] p e = absurd cc
    at_one (suc n) (y ∷ ys) p e = at_one n ys p e

-- a list that is another
pub listed_same : (each : ℕ → Lock → Type 0) (first : List Lock) (i : ℕ) (new locks : List Lock) → new ≡ locks → AreInOrder locks → ListsBelow each i first locks
    → record { order : AreInOrder new; locks : ListsBelow each i first new }
listed_same each first i new locks is order lists = record { order = subst AreInOrder (sym is) order; locks = subst (ListsBelow each i first) (sym is) lists }

abbrev number_of : Region → ℕ
number_of (Body g) = g
number_of (Inside n) = n

-- regions of the code that name one region are one
pub region_one : (a b : code.Region) → region_of a ≡ region_of b → a ≡ b
region_one (variant.Body f) (variant.Body g) e = ap variant.Body (ap number_of e)
region_one (variant.Section m) (variant.Section n) e = ap variant.Section (ap number_of e)
region_one (variant.Body f) (variant.Section n) e = absurd cc
region_one (variant.Section m) (variant.Body g) e = absurd cc
