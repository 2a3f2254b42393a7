-- A point is taken off the list with what is still to be followed there.
use Rattle.std.proofs.Common.{◌≡◌, ◌⊎◌, ⊎_elim, ℕ, zero, suc, ◌+◌, ◌<◌, ◌≤◌, Bool, List, [], ◌∷◌, length, slice_set, get_or, inl, inr, refl, ap, sym, subst, ◌∙◌, arith}
use Rattle.std.proofs.lemmas.Bool.Decides.{eqb_tells}
use Rattle.std.proofs.lemmas.List.{length-map}
use Rattle.asl_code.specs.declared.lock.Lock.{Lock}
use Rattle.asl_lane_sets.specs.NumberSet.{IsIn}
use Rattle.asl_backward_flow.specs.declared.region.Region.{Region}
use Rattle.asl_backward_flow.specs.declared.fresh.Fresh.{Fresh}
use Rattle.asl_backward_flow.specs.declared.region_needs.RegionNeeds.{RegionNeeds}
use Rattle.asl_backward_flow.specs.Found.{Table, table_of, list_at, first_of, sets_of, fresh_of, open_of, Waits, WaitsOrIsOne, IsWhole, IsTaken, IsTakenOut, IsNext, with_waiting}
use Rattle.asl_backward_flow.specs.Fresh.{IsGiven}
use Rattle.asl_backward_flow.proofs.ReplacedLists.{list_each}
use Rattle.asl_backward_flow.proofs.Freshness.{given_out, given_is}
use Rattle.asl_backward_flow.proofs.Tables.{Step, step_of, locks_before, sets_before, fresh_before, first_before}

none_there : (n : ℕ) → IsIn [] n → ⊥
none_there n h = cc

pair_of : (f : ℕ × ℕ) → (f.0, f.1) ≡ f
pair_of (a, b) = refl

module _ (t : Table) (f : ℕ × ℕ) (place : ℕ) (fresh : List (List Bool)) (rest : List (ℕ × ℕ)) (set : List Bool) (whole : IsWhole t) (there : f.0 < length t.fresh) (at_place : f.1 ≡ first_of t f.0 + place)
    (out : IsTakenOut (fresh_of t f.0) fresh place) (is : set ≡ list_at (fresh_of t f.0) place) (taken : IsTaken t.list rest f) where
  abbrev all : List (List (List Bool))
  all = slice_set t.fresh f.0 fresh

  abbrev now : Table
  now = with_waiting t all rest

  -- what waits did so, at another point
  down : (a k n : ℕ) → IsIn (list_at (list_at all a) k) n → IsIn (list_at (fresh_of t a) k) n × (a ≡ f.0 → k ≡ place → ⊥)
  down a k n e =
      list_each t.fresh f.0 fresh there (λ b l. (k n : ℕ) → IsIn (list_at l k) n → IsIn (list_at (fresh_of t b) k) n × (b ≡ f.0 → k ≡ place → ⊥))
      (λ k n h.
      ⊎_elim
      (λ same. absurd (none_there n (subst (λ l. IsIn l n) (ap (list_at fresh) same.1 ∙ out.none) h)))
      (λ ne. (subst (λ l. IsIn l n) (out.rest k ne.1) h, λ b same. ne.1 same))
      (eqb_tells k place))
      (λ b no k n h. (h, λ same k_is. no same)) a k n e

  -- what waited does so still, but at the point
  up : (a k n : ℕ) → IsIn (list_at (fresh_of t a) k) n → IsIn (list_at (list_at all a) k) n ⊎ ((a ≡ f.0) × (k ≡ place))
  up a k n e =
      list_each t.fresh f.0 fresh there (λ b l. (k n : ℕ) → IsIn (list_at (fresh_of t b) k) n → IsIn (list_at l k) n ⊎ ((b ≡ f.0) × (k ≡ place)))
      (λ k n h.
      ⊎_elim
      (λ same. inr (refl, same.1))
      (λ ne. inl (subst (λ l. IsIn l n) (sym (out.rest k ne.1)) h))
      (eqb_tells k place))
      (λ b no k n h. inl h) a k n e

  -- at the point nothing waits
  elsewhere : (a pc n : ℕ) → Waits now a pc n → (a, pc) ≡ f → ⊥
  elsewhere a pc n h same =
      let part : a ≡ f.0 = ap (λ (g : ℕ × ℕ). g.0) same in
      let point : pc ≡ f.1 = ap (λ (g : ℕ × ℕ). g.1) same in
      let first : first_of t a ≡ first_of t f.0 = ap (first_of t) part in
      let here : pc ≡ first_of t a + h.0 = h.1 in
      (down a h.0 n h.2).1 part (omega (arith, point, first, here, at_place))

  was : (a pc n : ℕ) → Waits now a pc n → Waits t a pc n
  was a pc n h = (h.0, h.1, (down a h.0 n h.2).0)

  whole_now : IsWhole now
  whole_now = record {
    named = whole.named;
    listed = λ g h. whole.listed g (taken.left.only g h);
    apart = whole.apart;
    few = whole.few;
    found = λ a pc n h. whole.found a pc n (was a pc n h);
    awaited = λ a pc n h. ⊎_elim (λ same. absurd (elsewhere a pc n h same)) (λ at. at) (taken.left.rest (a, pc) (whole.awaited a pc n (was a pc n h)));
  }

  waits_now : (a pc n : ℕ) → Waits t a pc n → WaitsOrIsOne now f set a pc n
  waits_now a pc n h =
      ⊎_elim
      (λ e. inl (h.0, h.1, e))
      (λ (same : (a ≡ f.0) × (h.0 ≡ place)).
      let first : first_of t a ≡ first_of t f.0 = ap (first_of t) same.0 in
      let here : pc ≡ first_of t a + h.0 = h.1 in
      let k_is : h.0 ≡ place = same.1 in
      let point : pc ≡ f.1 = omega (arith, first, here, k_is, at_place) in
      let one : IsIn (list_at (fresh_of t f.0) place) n = subst (λ b. IsIn (list_at (fresh_of t b) place) n) same.0 (subst (λ k. IsIn (list_at (fresh_of t a) k) n) same.1 h.2) in
      inr (ap (λ b. (b, pc)) same.0 ∙ ap (λ q. (f.0, q)) point ∙ pair_of f, subst (λ l. IsIn l n) (sym is) one))
      (up a h.0 n h.2)

  pub next_here : IsNext t now f set
  next_here = record {
    same = refl;
    whole = whole_now;
    there = whole.listed f taken.there;
    within = λ n h. whole.found f.0 f.1 n (place, at_place, subst (λ l. IsIn l n) is h);
    taken = λ n h. elsewhere f.0 f.1 n h (pair_of f);
    waits = waits_now;
    less = let less = taken.shorter in omega (arith, less);
  }

in_list : (xs : List (List Bool)) (k n : ℕ) → IsIn (list_at xs k) n → k < length xs
in_list [] k n e = absurd (none_there n e)
in_list (x ∷ xs) zero n e = omega arith
in_list (x ∷ xs) (suc k) n e = let lt = in_list xs k n e in omega (arith, lt)

in_lists : (xs : List (List (List Bool))) (p k n : ℕ) → IsIn (list_at (list_at xs p) k) n → p < length xs
in_lists [] p k n e = absurd (none_there n e)
in_lists (x ∷ xs) zero k n e = omega arith
in_lists (x ∷ xs) (suc p) k n e = let lt = in_lists xs p k n e in omega (arith, lt)

-- the region of a point of the list is there
pub taken_part : (parts : List RegionNeeds) (list rest : List (ℕ × ℕ)) (f : ℕ × ℕ) → IsWhole (table_of parts list) → IsTaken list rest f → f.0 < length parts
taken_part parts list rest f whole taken =
    let has = whole.listed f taken.there in
    let lt = in_lists (table_of parts list).sets f.0 has.1.0 has.0 has.1.2 in
    omega (arith, lt, length-map parts (λ (z : RegionNeeds). z.needs.items))

-- and the point is one of the region
module _ (parts : List RegionNeeds) (f : ℕ × ℕ) (q : ℕ) (x : RegionNeeds) (list rest : List (ℕ × ℕ)) (same : q ≡ f.0) (there : f.0 < length parts) (is : x ≡ get_or parts q x)
    (whole : IsWhole (table_of parts list)) (taken : IsTaken list rest f) where
  pub taken_first : x.first ≤ f.1
  taken_first =
      let has = whole.listed f taken.there in
      let at = has.1.1 in
      let first = first_before parts f.0 q x list same there is in
      omega (arith, at, first)

  pub taken_within : (place : ℕ) → f.1 ≡ x.first + place → place < length x.needs.items
  taken_within place at_place =
      let has = whole.listed f taken.there in
      let at = has.1.1 in
      let first = first_before parts f.0 q x list same there is in
      let lt = in_list (sets_of (table_of parts list) f.0) has.1.0 has.0 has.1.2 in
      let old = ap length (sets_before parts f.0 q x list same there is) in
      omega (arith, at, at_place, first, lt, old)

set_same : {A : Type 0} (xs : List (List A)) (p : ℕ) (y : List A) → y ≡ list_at xs p → slice_set xs p y ≡ xs
set_same [] p y e = refl
set_same (x ∷ xs) zero y e = ap (λ z. z ∷ xs) e
set_same (x ∷ xs) (suc p) y e = ap (λ zs. x ∷ zs) (set_same xs p y e)

abbrev table_with : List Region → List ℕ → List (List Lock) → List (List (List Bool)) → List (List (List Bool)) → List (ℕ × ℕ) → Table
table_with regions firsts locks sets fresh list = record { regions = regions; firsts = firsts; locks = locks; sets = sets; fresh = fresh; list = list }

same_tables : (a b : List Region) (c d : List ℕ) (e f : List (List Lock)) (g h v w : List (List (List Bool))) (list : List (ℕ × ℕ)) → a ≡ b → c ≡ d → e ≡ f → g ≡ h → v ≡ w
    → table_with a c e g v list ≡ table_with b d f h w list
same_tables a b c d e f g h v w list p q r s t =
    ap (λ z. table_with z c e g v list) p ∙ ap (λ z. table_with b z e g v list) q ∙ ap (λ z. table_with b d z g v list) r ∙ ap (λ z. table_with b d f z v list) s ∙ ap (λ z. table_with b d f h z list) t

-- the same, by the part of the region before and after it
module _ (parts : List RegionNeeds) (f : ℕ × ℕ) (q : ℕ) (x : RegionNeeds) (list rest : List (ℕ × ℕ)) (same : q ≡ f.0) (there : f.0 < length parts) (is : x ≡ get_or parts q x) (fresh : Fresh) where
  abbrev with : RegionNeeds
  with = record { region = x.region; first = x.first; locks = x.locks; needs = x.needs; fresh = fresh }

  abbrev before : Table
  before = table_of parts list

  step : Step before (table_of (slice_set parts q with) rest) f.0 x.locks.keys x.needs.items (open_of with)
  step = step_of parts f.0 q x with list rest same there is refl refl

  after_is : table_of (slice_set parts q with) rest ≡ with_waiting before (slice_set before.fresh f.0 (open_of with)) rest
  after_is = same_tables _ _ _ _ _ _ _ _ _ _ rest step.regions step.firsts
      (step.locks_are ∙ set_same before.locks f.0 x.locks.keys (sym (locks_before parts f.0 q x list same there is)))
      (step.sets_are ∙ set_same before.sets f.0 x.needs.items (sym (sets_before parts f.0 q x list same there is)))
      step.fresh_are

  -- no lock gets another number
  pub same_locks : (table_of (slice_set parts q with) rest).locks ≡ before.locks
  same_locks = ap (λ (t : Table). t.locks) after_is

  pub next_part : (place : ℕ) (set : List Bool) → IsWhole before → f.1 ≡ x.first + place → IsTakenOut (open_of x) (open_of with) place → set ≡ list_at (open_of x) place → IsTaken list rest f
      → IsNext before (table_of (slice_set parts q with) rest) f set
  next_part place set whole at_place out set_is taken =
      let old = fresh_before parts f.0 q x list same there is in
      let first = first_before parts f.0 q x list same there is in
      subst (λ (t : Table). IsNext before t f set) (sym after_is)
      (next_here before f place (open_of with) rest set whole step.and_too (at_place ∙ ap (λ n. n + place) (sym first)) (subst (λ l. IsTakenOut l (open_of with) place) (sym old) out) (set_is ∙ ap (λ l. list_at l place) (sym old)) taken)

  -- the same where the set was given that was not followed yet
  pub next_given : (place : ℕ) (set y : List Bool) → IsWhole before → f.1 ≡ x.first + place → place < length x.needs.items → list_at x.needs.items place ≡ y → IsGiven x.fresh fresh place y set → IsTaken list rest f
      → IsNext before (table_of (slice_set parts q with) rest) f set
  next_given place set y whole at_place within here so taken =
      next_part place set whole at_place (given_out x.fresh fresh x.needs.items place y set within here so) (given_is x.fresh fresh x.needs.items place y set within here so) taken
