-- What one addition does to what is found: one region has other locks and other sets.
use Rattle.std.proofs.Common.{◌≡◌, ◌≢◌, ◌⊎◌, ⊎_elim, ℕ, zero, suc, ◌+◌, ◌<◌, ◌≤◌, Bool, true, List, [], ◌∷◌, Some, length, map, slice_get, slice_set, unwrap_or, inl, inr, refl, ap, sym, subst, get_or, length-set, ◌∙◌, arith}
use Rattle.std.specs.List.{sum_by}
use Rattle.std.proofs.lemmas.Bool.Decides.{eqb_tells}
use Rattle.std.proofs.lemmas.List.{length-map}
use Rattle.std.proofs.lemmas.List.Sums.{sum_by-set}
use Rattle.asl_code.specs.declared.lock.Lock.{Lock}
use Rattle.asl_lane_sets.specs.NumberSet.{IsIn}
use Rattle.asl_backward_flow.specs.declared.region_needs.RegionNeeds.{RegionNeeds}
use Rattle.asl_backward_flow.specs.Found.{Table, table_of, IsAt, HasNoneTwice, list_at, locks_of, first_of, sets_of, fresh_of, open_of, HasPoint, Has, Waits, HasFact, IsWhole, Adds, Lists, Numbers, IsMarked, IsFresher, IsPut, free_in}
use Rattle.asl_backward_flow.proofs.Sets.{some_same}
use Rattle.asl_backward_flow.proofs.ReplacedLists.{list_here, list_each, list_of, map_set, map_same}

-- one region has these locks, these sets, and these of what is to be followed now, and all else stays
pub record Step (old new : Table) (p : ℕ) (keys : List Lock) (sets fresh : List (List Bool)) : Type 0 where
  pub regions : new.regions ≡ old.regions
  pub firsts : new.firsts ≡ old.firsts
  pub there : p < length old.locks
  pub too : p < length old.sets
  pub locks_are : new.locks ≡ slice_set old.locks p keys
  pub sets_are : new.sets ≡ slice_set old.sets p sets
  pub and_too : p < length old.fresh
  pub fresh_are : new.fresh ≡ slice_set old.fresh p fresh

pub step_of : (parts : List RegionNeeds) (p q : ℕ) (x y : RegionNeeds) (list more : List (ℕ × ℕ)) → q ≡ p → p < length parts → x ≡ get_or parts q x → y.region ≡ x.region → y.first ≡ x.first
    → Step (table_of parts list) (table_of (slice_set parts q y) more) p y.locks.keys y.needs.items (open_of y)
step_of parts p q x y list more same there is region first = record {
  regions = map_same (λ (z : RegionNeeds). z.region) parts q y (region ∙ ap (λ (z : RegionNeeds). z.region) old);
  firsts = map_same (λ (z : RegionNeeds). z.first) parts q y (first ∙ ap (λ (z : RegionNeeds). z.first) old);
  there = subst (λ n. p < n) (sym (length-map parts (λ (z : RegionNeeds). z.locks.keys))) there;
  too = subst (λ n. p < n) (sym (length-map parts (λ (z : RegionNeeds). z.needs.items))) there;
  locks_are = map_set (λ (z : RegionNeeds). z.locks.keys) parts q y ∙ ap (λ n. slice_set (map (λ (z : RegionNeeds). z.locks.keys) parts) n y.locks.keys) same;
  sets_are = map_set (λ (z : RegionNeeds). z.needs.items) parts q y ∙ ap (λ n. slice_set (map (λ (z : RegionNeeds). z.needs.items) parts) n y.needs.items) same;
  and_too = subst (λ n. p < n) (sym (length-map parts open_of)) there;
  fresh_are = map_set open_of parts q y ∙ ap (λ n. slice_set (map open_of parts) n (open_of y)) same;
}
  where
    within : q < length parts
    within = omega (arith, same, there)

    one : (xs : List RegionNeeds) (n : ℕ) (c d : RegionNeeds) → n < length xs → get_or xs n c ≡ get_or xs n d
    one [] n c d lt = absurd (omega arith)
    one (z ∷ xs) zero c d lt = refl
    one (z ∷ xs) (suc n) c d lt = one xs n c d (omega arith)

    old : x ≡ get_or parts q y
    old = is ∙ one parts q x y within

-- the locks and the sets of a region before it is changed
pub locks_before : (parts : List RegionNeeds) (p q : ℕ) (x : RegionNeeds) (list : List (ℕ × ℕ)) → q ≡ p → p < length parts → x ≡ get_or parts q x → locks_of (table_of parts list) p ≡ x.locks.keys
locks_before parts p q x list same there is = list_of (λ (z : RegionNeeds). z.locks.keys) parts p x there ∙ ap (λ (z : RegionNeeds). z.locks.keys) (ap (λ n. get_or parts n x) (sym same) ∙ sym is)

-- the sets of a region, as the table has them and as the code holds them, are one list
pub sets_before : (parts : List RegionNeeds) (p q : ℕ) (x : RegionNeeds) (list : List (ℕ × ℕ)) → q ≡ p → p < length parts → x ≡ get_or parts q x → sets_of (table_of parts list) p ≡ x.needs.items
sets_before parts p q x list same there is = list_of (λ (z : RegionNeeds). z.needs.items) parts p x there ∙ ap (λ (z : RegionNeeds). z.needs.items) (ap (λ n. get_or parts n x) (sym same) ∙ sym is)

pub fresh_before : (parts : List RegionNeeds) (p q : ℕ) (x : RegionNeeds) (list : List (ℕ × ℕ)) → q ≡ p → p < length parts → x ≡ get_or parts q x → fresh_of (table_of parts list) p ≡ open_of x
fresh_before parts p q x list same there is = list_of open_of parts p x there ∙ ap open_of (ap (λ n. get_or parts n x) (sym same) ∙ sym is)

pub first_before : (parts : List RegionNeeds) (p q : ℕ) (x : RegionNeeds) (list : List (ℕ × ℕ)) → q ≡ p → p < length parts → x ≡ get_or parts q x → first_of (table_of parts list) p ≡ x.first
first_before parts p q x list same there is = first_at parts p there ∙ ap (λ (z : RegionNeeds). z.first) (ap (λ n. get_or parts n x) (sym same) ∙ sym is)
  where
    first_at : (xs : List RegionNeeds) (n : ℕ) → n < length xs → unwrap_or (slice_get (map (λ (z : RegionNeeds). z.first) xs) n) 0 ≡ (get_or xs n x).first
    first_at [] n lt = absurd (omega arith)
    first_at (z ∷ xs) zero lt = refl
    first_at (z ∷ xs) (suc n) lt = first_at xs n (omega arith)

module _ (old new : Table) (p : ℕ) (keys : List Lock) (sets fresh : List (List Bool)) (s : Step old new p keys sets fresh) (These : Lock → Type 0) (numbers : Numbers (locks_of old p) keys These) where
  locks_each : (P : ℕ → List Lock → Type 0) → P p keys → ((q : ℕ) → q ≢ p → P q (locks_of old q)) → (q : ℕ) → P q (locks_of new q)
  locks_each P here rest q = subst (λ l. P q (list_at l q)) (sym s.locks_are) (list_each old.locks p keys s.there P here rest q)

  sets_each : (P : ℕ → List (List Bool) → Type 0) → P p sets → ((q : ℕ) → q ≢ p → P q (sets_of old q)) → (q : ℕ) → P q (sets_of new q)
  sets_each P here rest q = subst (λ l. P q (list_at l q)) (sym s.sets_are) (list_each old.sets p sets s.too P here rest q)

  fresh_each : (P : ℕ → List (List Bool) → Type 0) → P p fresh → ((q : ℕ) → q ≢ p → P q (fresh_of old q)) → (q : ℕ) → P q (fresh_of new q)
  fresh_each P here rest q = subst (λ l. P q (list_at l q)) (sym s.fresh_are) (list_each old.fresh p fresh s.and_too P here rest q)

  names_kept : (q n : ℕ) (m : Lock) → slice_get (locks_of old q) n ≡ Some m → slice_get (locks_of new q) n ≡ Some m
  names_kept q = locks_each (λ r l. (n : ℕ) (m : Lock) → slice_get (locks_of old r) n ≡ Some m → slice_get l n ≡ Some m) numbers.kept (λ r no n m e. e) q

  names_only : (q n : ℕ) (m : Lock) → slice_get (locks_of new q) n ≡ Some m → slice_get (locks_of old q) n ≡ Some m ⊎ ((q ≡ p) × These m)
  names_only q =
      locks_each (λ r l. (n : ℕ) (m : Lock) → slice_get l n ≡ Some m → slice_get (locks_of old r) n ≡ Some m ⊎ ((r ≡ p) × These m))
      (λ n m e. ⊎_elim (λ x. inl x) (λ x. inr (refl, x)) (numbers.only n m e)) (λ r no n m e. inl e) q

  names_apart : ((q : ℕ) → HasNoneTwice (locks_of old q)) → (q : ℕ) → HasNoneTwice (locks_of new q)
  names_apart was q = locks_each (λ r l. HasNoneTwice l) numbers.apart (λ r no. was r) q

  names_few : ((q : ℕ) → length (locks_of old q) ≤ 4096) → length keys ≤ 4096 → (q : ℕ) → length (locks_of new q) ≤ 4096
  names_few was here q = locks_each (λ r l. length l ≤ 4096) here (λ r no. was r) q

  keys_here : locks_of new p ≡ keys
  keys_here = ap (λ l. list_at l p) s.locks_are ∙ list_here old.locks p keys s.there

  pub is_over : 4096 < length keys → (4096 < length (locks_of new p)) × HasNoneTwice (locks_of new p)
  is_over over = (subst (λ l. 4096 < length l) (sym keys_here) over, subst HasNoneTwice (sym keys_here) numbers.apart)

  first_same : (q : ℕ) → first_of new q ≡ first_of old q
  first_same q = ap (λ l. unwrap_or (slice_get l q) 0) s.firsts

  -- with sets that have what they had, and these
  module _ (count : length sets ≡ length (sets_of old p)) (kept : (k n : ℕ) → IsIn (list_at (sets_of old p) k) n → IsIn (list_at sets k) n) (More : ℕ → ℕ → Type 0)
      (only : (k n : ℕ) → IsIn (list_at sets k) n → IsIn (list_at (sets_of old p) k) n ⊎ More k n) where
    pub has_kept : (q r n : ℕ) → Has old q r n → Has new q r n
    has_kept q r n h = (
      h.0,
      h.1 ∙ ap (λ f. f + h.0) (sym (first_same q)),
      sets_each (λ x l. (k i : ℕ) → IsIn (list_at (sets_of old x) k) i → IsIn (list_at l k) i) kept (λ x no k i e. e) q h.0 n h.2,
    )

    points_kept : (q r : ℕ) → HasPoint old q r → HasPoint new q r
    points_kept q r h =
        let as_many = sets_each (λ x l. length l ≡ length (sets_of old x)) count (λ x no. refl) q in
        (h.0, h.1 ∙ ap (λ f. f + h.0) (sym (first_same q)), subst (λ n. h.0 < n) (sym as_many) h.2)

    pub has_only : (q r n : ℕ) → Has new q r n → Has old q r n ⊎ ((q ≡ p) × (k : ℕ) × (r ≡ first_of old p + k) × More k n)
    has_only q r n h =
        let place : r ≡ first_of old q + h.0 = h.1 ∙ ap (λ f. f + h.0) (first_same q) in
        ⊎_elim
        (λ e. inl (h.0, place, e))
        (λ e. inr (e.0, h.0, place ∙ ap (λ x. first_of old x + h.0) e.0, e.1))
        (sets_each (λ x l. (k i : ℕ) → IsIn (list_at l k) i → IsIn (list_at (sets_of old x) k) i ⊎ ((x ≡ p) × More k i))
        (λ k i e. ⊎_elim (λ y. inl y) (λ y. inr (refl, y)) (only k i e)) (λ x no k i e. inl e) q h.0 n h.2)

    -- these are the numbers of such locks at the pc
    pub adds_here : (pc : ℕ) → IsWhole old → ((k n : ℕ) → More k n → (pc ≡ first_of old p + k) × ((m : Lock) × (slice_get keys n ≡ Some m) × These m)) → Adds old new (λ q r m. (q ≡ p) × (r ≡ pc) × These m)
    adds_here pc whole named = record {
      grows = record { regions = s.regions; parts = ap length s.locks_are ∙ length-set old.locks p keys; names = names_kept; points = points_kept; facts = has_kept };
      only = record {
        facts = λ q r m has.
            ⊎_elim
            (λ was.
            let name = whole.named q r has.0 was in
            let same : name.0 ≡ m = some_same (sym (names_kept q has.0 name.0 name.1) ∙ has.2) in
            inl (has.0, was, name.1 ∙ ap Some same))
            (λ e.
            let of = named e.1 has.0 e.3 in
            let found : slice_get keys has.0 ≡ Some m = ap (λ l. slice_get l has.0) (sym keys_here ∙ ap (λ x. locks_of new x) (sym e.0)) ∙ has.2 in
            inr (e.0, e.2 ∙ sym of.0, subst These (some_same (sym of.1.1 ∙ found)) of.1.2))
            (has_only q r has.0 has.1);
        names = λ q m h. ⊎_elim (λ x. inl (h.0, x)) (λ x. inr (pc, (x.0, refl, x.1))) (names_only q h.0 m h.1);
      };
    }

  -- with sets of what is to be followed that have what they had, and these
  module _ (kept : (k n : ℕ) → IsIn (list_at (fresh_of old p) k) n → IsIn (list_at fresh k) n) (More : ℕ → ℕ → Type 0)
      (only : (k n : ℕ) → IsIn (list_at fresh k) n → IsIn (list_at (fresh_of old p) k) n ⊎ More k n) where
    pub waits_kept : (q r n : ℕ) → Waits old q r n → Waits new q r n
    waits_kept q r n h = (
      h.0,
      h.1 ∙ ap (λ f. f + h.0) (sym (first_same q)),
      fresh_each (λ x l. (k i : ℕ) → IsIn (list_at (fresh_of old x) k) i → IsIn (list_at l k) i) kept (λ x no k i e. e) q h.0 n h.2,
    )

    pub waits_only : (q r n : ℕ) → Waits new q r n → Waits old q r n ⊎ ((q ≡ p) × (k : ℕ) × (r ≡ first_of old p + k) × More k n)
    waits_only q r n h =
        let place : r ≡ first_of old q + h.0 = h.1 ∙ ap (λ f. f + h.0) (first_same q) in
        ⊎_elim
        (λ e. inl (h.0, place, e))
        (λ e. inr (e.0, h.0, place ∙ ap (λ x. first_of old x + h.0) e.0, e.1))
        (fresh_each (λ x l. (k i : ℕ) → IsIn (list_at l k) i → IsIn (list_at (fresh_of old x) k) i ⊎ ((x ≡ p) × More k i))
        (λ k i e. ⊎_elim (λ y. inl y) (λ y. inr (refl, y)) (only k i e)) (λ x no k i e. inl e) q h.0 n h.2)

-- sets that stay
module _ (old new : Table) (p : ℕ) (keys : List Lock) (sets fresh : List (List Bool)) (s : Step old new p keys sets fresh) (These : Lock → Type 0) (numbers : Numbers (locks_of old p) keys These) (same : sets ≡ sets_of old p) where
  pub adds_name : (pc : ℕ) → IsWhole old → Adds old new (λ q r m. (q ≡ p) × (r ≡ pc) × These m)
  adds_name pc whole =
      adds_here old new p keys sets fresh s These numbers (ap length same) (λ k n e. subst (λ l. IsIn (list_at l k) n) (sym same) e) (λ k n. ⊥)
      (λ k n e. inl (subst (λ l. IsIn (list_at l k) n) same e)) pc whole (λ k n e. absurd e)

-- numbers of such locks come into a set
module _ (old new : Table) (p : ℕ) (keys : List Lock) (sets fresh : List (List Bool)) (s : Step old new p keys sets fresh) (These : Lock → Type 0) (numbers : Numbers (locks_of old p) keys These)
    (place : ℕ) (these : ℕ → Type 0) (is_new : Bool) (marked : IsMarked (sets_of old p) sets place these is_new) (pc : ℕ) (at_place : pc ≡ first_of old p + place)
    (stored : (n : ℕ) → these n → (m : Lock) × (slice_get keys n ≡ Some m) × These m) where
  abbrev More : ℕ → ℕ → Type 0
  More k n = (k ≡ place) × these n

  pub kept : (k n : ℕ) → IsIn (list_at (sets_of old p) k) n → IsIn (list_at sets k) n
  kept k n e =
      ⊎_elim
      (λ t. subst (λ j. IsIn (list_at sets j) n) (sym t.1) ((marked.here n).1 (inl (subst (λ j. IsIn (list_at (sets_of old p) j) n) t.1 e))))
      (λ t. subst (λ l. IsIn l n) (sym (marked.rest k t.1)) e)
      (eqb_tells k place)

  pub only : (k n : ℕ) → IsIn (list_at sets k) n → IsIn (list_at (sets_of old p) k) n ⊎ More k n
  only k n e =
      ⊎_elim
      (λ t. ⊎_elim (λ was. inl (subst (λ j. IsIn (list_at (sets_of old p) j) n) (sym t.1) was)) (λ is. inr (t.1, is)) ((marked.here n).0 (subst (λ j. IsIn (list_at sets j) n) t.1 e)))
      (λ t. inl (subst (λ l. IsIn l n) (marked.rest k t.1) e))
      (eqb_tells k place)

  still : (q r n : ℕ) → Has old q r n → Has new q r n
  still = has_kept old new p keys sets fresh s These numbers marked.count kept More only

  pub adds_fact : IsWhole old → Adds old new (λ q r m. (q ≡ p) × (r ≡ pc) × These m)
  adds_fact whole =
      adds_here old new p keys sets fresh s These numbers marked.count kept More only pc whole
      (λ k n e. (at_place ∙ ap (λ j. first_of old p + j) (sym e.0), stored n e.1))

  has_marked : (n : ℕ) → IsIn (list_at sets place) n → Has new p pc n
  has_marked n e = (
    place,
    at_place ∙ ap (λ f. f + place) (sym (first_same old new p keys sets fresh s These numbers p)),
    subst (λ l. IsIn (list_at l place) n) (sym (ap (λ l. list_at l p) s.sets_are ∙ list_here old.sets p sets s.too)) e,
  )

  pub has_fact : (n : ℕ) (m : Lock) → these n → slice_get keys n ≡ Some m → HasFact new p pc m
  has_fact n m h e = (n, has_marked n ((marked.here n).1 (inr h)), ap (λ l. slice_get l n) (keys_here old new p keys sets fresh s These numbers) ∙ e)

  -- the point is listed if something is new, and that is to be followed
  module _ (fresher : IsFresher (sets_of old p) (fresh_of old p) fresh place these is_new) (listed : IsPut old.list new.list (p, pc) is_new) where
    abbrev NewToo : ℕ → ℕ → Type 0
    NewToo k n = (k ≡ place) × (is_new ≡ true) × these n

    kept_too : (k n : ℕ) → IsIn (list_at (fresh_of old p) k) n → IsIn (list_at fresh k) n
    kept_too k n e =
        ⊎_elim
        (λ t. subst (λ j. IsIn (list_at fresh j) n) (sym t.1) (fresher.kept n (subst (λ j. IsIn (list_at (fresh_of old p) j) n) t.1 e)))
        (λ t. subst (λ l. IsIn l n) (sym (fresher.rest k t.1)) e)
        (eqb_tells k place)

    only_too : (k n : ℕ) → IsIn (list_at fresh k) n → IsIn (list_at (fresh_of old p) k) n ⊎ NewToo k n
    only_too k n e =
        ⊎_elim
        (λ t. ⊎_elim (λ was. inl (subst (λ j. IsIn (list_at (fresh_of old p) j) n) (sym t.1) was)) (λ is. inr (t.1, is.0, is.1)) (fresher.only n (subst (λ j. IsIn (list_at fresh j) n) t.1 e)))
        (λ t. inl (subst (λ l. IsIn l n) (fresher.rest k t.1) e))
        (eqb_tells k place)

    wait_only : (q r n : ℕ) → Waits new q r n → Waits old q r n ⊎ ((q ≡ p) × (k : ℕ) × (r ≡ first_of old p + k) × NewToo k n)
    wait_only = waits_only old new p keys sets fresh s These numbers kept_too NewToo only_too

    wait_still : (q r n : ℕ) → Waits old q r n → Waits new q r n
    wait_still = waits_kept old new p keys sets fresh s These numbers kept_too NewToo only_too

    -- a point of the region is the pc
    this_pc : (r k : ℕ) → r ≡ first_of old p + k → k ≡ place → r ≡ pc
    this_pc r k at is = at ∙ ap (λ j. first_of old p + j) is ∙ sym at_place

    waits_marked : (n : ℕ) → IsIn (list_at fresh place) n → Waits new p pc n
    waits_marked n e = (
      place,
      at_place ∙ ap (λ f. f + place) (sym (first_same old new p keys sets fresh s These numbers p)),
      subst (λ l. IsIn (list_at l place) n) (sym (ap (λ l. list_at l p) s.fresh_are ∙ list_here old.fresh p fresh s.and_too)) e,
    )

    pub whole_fact : IsWhole old → length keys ≤ 4096 → IsWhole new
    whole_fact whole few = record {
      named = λ q r n h.
          ⊎_elim
          (λ was. let name = whole.named q r n was in (name.0, names_kept old new p keys sets fresh s These numbers q n name.0 name.1))
          (λ e. let name = stored n e.3.1 in (name.0, ap (λ x. slice_get (locks_of new x) n) e.0 ∙ ap (λ l. slice_get l n) (keys_here old new p keys sets fresh s These numbers) ∙ name.1))
          (has_only old new p keys sets fresh s These numbers marked.count kept More only q r n h);
      listed = λ f h.
          ⊎_elim
          (λ was. let has = whole.listed f was in (has.0, still f.0 f.1 has.0 has.1))
          (λ e. let some = marked.some e.1 in subst (λ (g : ℕ × ℕ). (n : ℕ) × Has new g.0 g.1 n) (sym e.0) (some.0, has_marked some.0 some.1))
          (listed.only f h);
      apart = names_apart old new p keys sets fresh s These numbers whole.apart;
      few = names_few old new p keys sets fresh s These numbers whole.few few;
      found = λ q r n h.
          ⊎_elim
          (λ was. still q r n (whole.found q r n was))
          (λ e. subst (λ a. Has new a r n) (sym e.0) (subst (λ b. Has new p b n) (sym (this_pc r e.1 e.2 e.3.0)) (has_marked n ((marked.here n).1 (inr e.3.2)))))
          (wait_only q r n h);
      awaited = λ q r n h.
          ⊎_elim
          (λ was. listed.stay (q, r) (whole.awaited q r n was))
          (λ e. subst (λ a. IsAt new.list (a, r)) (sym e.0) (subst (λ b. IsAt new.list (p, b)) (sym (this_pc r e.1 e.2 e.3.0)) (listed.there e.3.1)))
          (wait_only q r n h);
    }

    here : (q r n : ℕ) → q ≡ p → r ≡ pc → these n → Has old q r n ⊎ Waits new q r n
    here q r n q_is r_is h =
        let Goal : ℕ → ℕ → Type 0 = λ a b. Has old a b n ⊎ Waits new a b n in
        subst (λ a. Goal a r) (sym q_is) (subst (Goal p) (sym r_is) (⊎_elim (λ was. inl (place, at_place, was)) (λ e. inr (waits_marked n e)) (fresher.all n h)))

    pub lists_fact : Lists old new
    lists_fact = record {
      stay = wait_still;
      fresh = λ q r n h.
          ⊎_elim
          (λ was. inl was)
          (λ e. here q r n e.0 (this_pc r e.1 e.2 e.3.0) e.3.1)
          (has_only old new p keys sets fresh s These numbers marked.count kept More only q r n h);
      less =
          let count = listed.longer in
          let low = marked.less in
          let sums : sum_by free_in new.sets + free_in (get_or old.sets p sets) ≡ sum_by free_in old.sets + free_in sets = ap (λ l. sum_by free_in l + free_in (get_or old.sets p sets)) s.sets_are ∙ sum_by-set free_in old.sets p sets sets s.too in
          let was : free_in (sets_of old p) ≡ free_in (get_or old.sets p sets) = ap free_in (get_here old.sets p s.too) in
          omega (arith, count, low, sums, was);
    }
      where
        get_here : (lists : List (List (List Bool))) (n : ℕ) → n < length lists → list_at lists n ≡ get_or lists n sets
        get_here [] n lt = absurd (omega arith)
        get_here (l ∷ ls) zero lt = refl
        get_here (l ∷ ls) (suc n) lt = get_here ls n (omega arith)
