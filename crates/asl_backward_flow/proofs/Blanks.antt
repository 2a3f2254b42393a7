-- Regions with nothing found yet.
use Rattle.std.proofs.Common.{◌≡◌, ◌⊎◌, ⊎_elim, inl, inr, ℕ, zero, suc, ◌+◌, ◌-◌, ◌<◌, ◌≤◌, Bool, List, [], ◌∷◌, ◌++◌, Some, length, map, replicate, slice_get, unwrap_or, refl, ap, sym, subst, ◌∙◌, length-append, arith}
use Rattle.std.proofs.lemmas.List.{length-map, length-replicate}
use Rattle.std.proofs.lemmas.Option.{slice_get_within}
use Rattle.asl_code.specs.declared.lock.Lock.{Lock}
use Rattle.asl_lane_sets.specs.NumberSet.{IsIn}
use Rattle.asl_backward_flow.specs.declared.span.Span.{Span}
use Rattle.asl_backward_flow.specs.declared.region_needs.RegionNeeds.{RegionNeeds}
use Rattle.asl_backward_flow.specs.Found.{table_of, list_at, first_of, sets_of, open_of, HasPoint, IsBlankNeeds, IsBlank}
use Rattle.asl_backward_flow.specs.Fresh.{open_from}
use Rattle.asl_backward_flow.proofs.Keeping.{open_blank}
use Rattle.asl_backward_flow.proofs.SetNeeds.{mapped_at}
use Rattle.asl_backward_flow.proofs.Sets.{some_same}

-- the regions of the spans below a number
pub record AreMade (spans : List Span) (below : ℕ) (parts : List RegionNeeds) : Type 0 where
  pub count : length parts ≡ below
  pub each : (k : ℕ) (p : RegionNeeds) → slice_get parts k ≡ Some p → (s : Span) × (slice_get spans k ≡ Some s) × IsBlankNeeds s p

pub made_none : (spans : List Span) (parts : List RegionNeeds) → parts ≡ [] → AreMade spans 0 parts
made_none spans parts is = record { count = ap length is; each = λ k p at. absurd (nothing k p (ap (λ l. slice_get l k) (sym is) ∙ at)) }
  where
    nothing : (k : ℕ) (p : RegionNeeds) → slice_get {X = RegionNeeds} [] k ≡ Some p → ⊥
    nothing k p e = cc

pub made_more : (spans : List Span) (below : ℕ) (parts more : List RegionNeeds) (s : Span) (p : RegionNeeds) → slice_get spans below ≡ Some s → IsBlankNeeds s p → more ≡ parts ++ p ∷ [] → AreMade spans below parts → AreMade spans (below + 1) more
made_more spans below parts more s p at blank is so = record {
  count = ap length is ∙ length-append parts (p ∷ []) ∙ ap (λ n. n + 1) so.count;
  each = λ k x e. pushed parts k x (ap (λ l. slice_get l k) (sym is) ∙ e) so.each (at_end so.count);
}
  where
    at_end : length parts ≡ below → slice_get spans (length parts) ≡ Some s
    at_end e = ap (slice_get spans) e ∙ at

    place : (xs : List RegionNeeds) (k : ℕ) (x : RegionNeeds) → slice_get (xs ++ p ∷ []) k ≡ Some x → (slice_get xs k ≡ Some x) ⊎ ((k ≡ length xs) × (x ≡ p))
    place [] zero x e = inr (refl, sym (some_same e))
    place [] (suc k) x e = absurd cc
    place (y ∷ xs) zero x e = inl e
    place (y ∷ xs) (suc k) x e = ⊎_elim (λ o. inl o) (λ o. inr (ap suc o.0, o.1)) (place xs k x e)

    pushed : (xs : List RegionNeeds) (k : ℕ) (x : RegionNeeds) → slice_get (xs ++ p ∷ []) k ≡ Some x → ((j : ℕ) (y : RegionNeeds) → slice_get xs j ≡ Some y → (t : Span) × (slice_get spans j ≡ Some t) × IsBlankNeeds t y)
        → slice_get spans (length xs) ≡ Some s → (t : Span) × (slice_get spans k ≡ Some t) × IsBlankNeeds t x
    pushed xs k x e each end = ⊎_elim (λ o. each k x o) (λ o. (s, ap (slice_get spans) o.0 ∙ end, subst (IsBlankNeeds s) (sym o.1) blank)) (place xs k x e)

module _ {A B : Type 0} (f : A → B) where
  pub unmapped : (xs : List A) (k : ℕ) (y : B) → slice_get (map f xs) k ≡ Some y → (x : A) × (slice_get xs k ≡ Some x) × (f x ≡ y)
  unmapped [] k y e = absurd cc
  unmapped (x ∷ xs) zero y e = (x, refl, some_same e)
  unmapped (x ∷ xs) (suc k) y e = unmapped xs k y e

-- lists with the same values at each place
same_maps : {A B C : Type 0} (f : A → C) (g : B → C) (xs : List A) (ys : List B) → length xs ≡ length ys → ((k : ℕ) (x : A) → slice_get xs k ≡ Some x → (y : B) × (slice_get ys k ≡ Some y) × (f x ≡ g y)) → map f xs ≡ map g ys
same_maps f g [] [] e h = refl
same_maps f g [] (y ∷ ys) e h = absurd (omega (arith, e))
same_maps f g (x ∷ xs) [] e h = absurd (omega (arith, e))
same_maps f g (x ∷ xs) (y ∷ ys) e h =
    let first = h 0 x refl in
    ap (λ z. z ∷ map f xs) (first.2 ∙ ap g (sym (some_same first.1))) ∙ ap (λ zs. g y ∷ zs) (same_maps f g xs ys (omega (arith, e)) (λ k z at. h (suc k) z at))

none_in : (n k i : ℕ) → IsIn (list_at (replicate {A = List Bool} n []) k) i → ⊥
none_in zero k i e = cc
none_in (suc n) zero i e = cc
none_in (suc n) (suc k) i e = none_in n k i e

pub some_there : {A : Type 0} (xs : List A) (k : ℕ) → k < length xs → (x : A) × (slice_get xs k ≡ Some x)
some_there [] k lt = absurd (omega (arith, lt))
some_there (x ∷ xs) zero lt = (x, refl)
some_there (x ∷ xs) (suc k) lt = some_there xs k (omega (arith, lt))

none_named : (parts : List RegionNeeds) → ((k : ℕ) (p : RegionNeeds) → slice_get parts k ≡ Some p → p.locks.keys ≡ []) → (k n : ℕ) (m : Lock) → slice_get (list_at (map (λ (z : RegionNeeds). z.locks.keys) parts) k) n ≡ Some m → ⊥
none_named [] h k n m e = cc
none_named (p ∷ parts) h zero n m e = nothing n (ap (λ l. slice_get l n) (sym (h 0 p refl)) ∙ e)
  where
    nothing : (i : ℕ) → slice_get {X = Lock} [] i ≡ Some m → ⊥
    nothing i t = cc
none_named (p ∷ parts) h (suc k) n m e = none_named parts (λ j x at. h (suc j) x at) k n m e

none_set : (sets : RegionNeeds → List (List Bool)) (parts : List RegionNeeds) → ((k : ℕ) (p : RegionNeeds) → slice_get parts k ≡ Some p → (count : ℕ) × (sets p ≡ replicate count []))
    → (p k n : ℕ) → IsIn (list_at (list_at (map sets parts) p) k) n → ⊥
none_set sets [] h p k n e = cc
none_set sets (x ∷ parts) h zero k n e = let is = h 0 x refl in none_in is.0 k n (subst (λ l. IsIn (list_at l k) n) is.1 e)
none_set sets (x ∷ parts) h (suc p) k n e = none_set sets parts (λ j y at. h (suc j) y at) p k n e

module _ (spans : List Span) (parts : List RegionNeeds) (list : List (ℕ × ℕ)) (none : list ≡ []) (so : AreMade spans (length spans) parts) where
  part_at : (p : ℕ) (s : Span) → slice_get spans p ≡ Some s → (x : RegionNeeds) × (slice_get parts p ≡ Some x) × IsBlankNeeds s x
  part_at p s at =
      let lt = slice_get_within spans p s at in
      let count = so.count in
      let x = some_there parts p (omega (arith, lt, count)) in
      let made = so.each p x.0 x.1 in
      (x.0, x.1, subst (λ t. IsBlankNeeds t x.0) (some_same (sym made.1 ∙ at)) made.2)

  point_at : (p q : ℕ) (s : Span) → slice_get spans p ≡ Some s → s.first ≤ q → q < s.end → HasPoint (table_of parts list) p q
  point_at p q s at first end =
      let x = part_at p s at in
      let blank = x.2 in
      let first_is : first_of (table_of parts list) p ≡ s.first = ap (λ o. unwrap_or o 0) (mapped_at (λ (z : RegionNeeds). z.first) parts p x.0 x.1) ∙ blank.first in
      let sets_are : sets_of (table_of parts list) p ≡ replicate (s.end - s.first) [] = ap (λ o. unwrap_or o []) (mapped_at (λ (z : RegionNeeds). z.needs.items) parts p x.0 x.1) ∙ blank.sets in
      let count : length (sets_of (table_of parts list) p) ≡ s.end - s.first = ap length sets_are ∙ length-replicate (s.end - s.first) [] in
      (q - s.first, omega (arith, first_is, first), omega (arith, count, first, end))

  blank_table : IsBlank (table_of parts list) spans
  blank_table = record {
    regions = same_maps (λ (z : RegionNeeds). z.region) (λ (s : Span). s.region) parts spans so.count (λ k x at. let made = so.each k x at in (made.0, made.1, made.2.region));
    count = length-map parts (λ (z : RegionNeeds). z.locks.keys) ∙ so.count;
    locks = λ p n m e. none_named parts (λ k x at. (so.each k x at).2.locks) p n m e;
    sets = λ p q n h. none_set (λ (z : RegionNeeds). z.needs.items) parts (λ k x at. let made = so.each k x at in (made.0.end - made.0.first, made.2.sets)) p h.0 n h.2;
    fresh = λ p q n h. none_set open_of parts (λ k x at. let made = so.each k x at in (made.0.end - made.0.first, ap (λ l. open_from x.fresh 0 l) made.2.sets ∙ open_blank x.fresh made.2.fresh (made.0.end - made.0.first) 0)) p h.0 n h.2;
    points = λ p q s at first end. point_at p q s at first end;
    list = none;
  }

pub made_blank : (spans : List Span) (below : ℕ) (parts : List RegionNeeds) (list : List (ℕ × ℕ)) → list ≡ [] → length spans ≡ below → AreMade spans below parts → IsBlank (table_of parts list) spans
made_blank spans below parts list none end so = blank_table spans parts list none (subst (λ n. AreMade spans n parts) (sym end) so)
