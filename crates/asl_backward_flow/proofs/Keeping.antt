-- Sets that are kept at some places.
use Rattle.std.proofs.Common.{◌≡◌, ◌≢◌, ◌↔◌, ◌⊎◌, ⊎_elim, ℕ, zero, suc, ◌+◌, ◌<◌, ◌≤◌, Bool, List, [], ◌∷◌, ◌++◌, Option, None, Global, length, map, replicate, slice_set, get_or, inl, inr, refl, ap, sym, subst, ◌∙◌, arith}
use Rattle.std.specs.Prelude.{Box}
use Rattle.std.proofs.lemmas.List.{length-map}
use Rattle.asl_lane_sets.specs.NumberSet.{IsIn}
use Rattle.asl_backward_flow.specs.declared.fresh.Fresh.{Fresh}
use Rattle.asl_backward_flow.specs.Fresh.{set_of, kept_at, open_from, IsKept, IsGiven}
use Rattle.asl_backward_flow.specs.Found.{list_at}
use Rattle.asl_backward_flow.proofs.ReplacedLists.{list_here, list_else, list_of, map_set}
use Rattle.asl_backward_flow.proofs.Marks.{get_past}
use Rattle.asl_backward_flow.proofs.Freshness.{kept_same, open_first}

module _ (items : List (Option (Box (List Bool) Global))) (place : ℕ) where
  pub set_there : (o : Option (Box (List Bool) Global)) → place < length items → o ≡ get_or items place o → set_of o ≡ list_at (map set_of items) place
  set_there o lt is = ap set_of is ∙ sym (list_of set_of items place o lt)

  pub set_past : length items ≤ place → list_at (map set_of items) place ≡ []
  set_past le = let count = length-map items set_of in get_past (map set_of items) place (omega (arith, le, count))

  pub put_here : (o : Option (Box (List Bool) Global)) → place < length items → list_at (map set_of (slice_set items place o)) place ≡ set_of o
  put_here o lt =
      let count = length-map items set_of in
      ap (λ l. list_at l place) (map_set set_of items place o) ∙ list_here (map set_of items) place (set_of o) (omega (arith, lt, count))

  pub put_else : (o : Option (Box (List Bool) Global)) (k : ℕ) → k ≢ place → list_at (map set_of (slice_set items place o)) k ≡ list_at (map set_of items) k
  put_else o k ne = ap (λ l. list_at l k) (map_set set_of items place o) ∙ list_else (map set_of items) place k (set_of o) ne

-- one place more without a set
pub none_more : (items : List (Option (Box (List Bool) Global))) (k : ℕ) → list_at (map set_of (items ++ None ∷ [])) k ≡ list_at (map set_of items) k
none_more [] zero = refl
none_more [] (suc k) = refl
none_more (x ∷ items) zero = refl
none_more (x ∷ items) (suc k) = none_more items k

-- a set with more numbers is kept in the place of one that was taken
pub kept_more : (old mid new : Fresh) (place : ℕ) (x y : List Bool) (These : ℕ → Type 0) → mid.followed ≡ old.followed → new.followed ≡ mid.followed → ((k : ℕ) → k ≢ place → kept_at mid k ≡ kept_at old k)
    → ((k : ℕ) → k ≢ place → kept_at new k ≡ kept_at mid k) → x ≡ kept_at old place → kept_at new place ≡ y → ((n : ℕ) → IsIn y n ↔ (IsIn x n ⊎ These n))
    → IsKept old new place (λ n. IsIn (kept_at old place) n ⊎ These n)
kept_more old mid new place x y These first second rest more is here added = record {
  followed = second ∙ first;
  rest = λ k ne. more k ne ∙ rest k ne;
  here = λ n. (
    λ h. ⊎_elim (λ o. inl (subst (λ l. IsIn l n) is o)) (λ t. inr t) ((added n).0 (subst (λ l. IsIn l n) here h)),
    λ h. subst (λ l. IsIn l n) (sym here) ((added n).1 (⊎_elim (λ o. inl (subst (λ l. IsIn l n) (sym is) o)) (λ t. inr t) h)),
  );
}

-- what was found at a point since it was followed is given
pub given_again : (old mid new : Fresh) (place : ℕ) (found given kept : List Bool) → mid.followed ≡ old.followed → new.followed ≡ mid.followed → new.sets ≡ mid.sets → IsIn mid.followed place
    → kept ≡ kept_at old place → kept_at mid place ≡ [] → ((k : ℕ) → k ≢ place → kept_at mid k ≡ kept_at old k) → given ≡ kept → IsGiven old new place found given
given_again old mid new place found given kept first second same done is none rest gave = record {
  again = λ h. gave ∙ is;
  first = λ never. absurd (never (subst (λ l. IsIn l place) first done));
  followed = λ k. (
    λ h. inl (subst (λ l. IsIn l k) (second ∙ first) h),
    λ h. subst (λ l. IsIn l k) (sym second) (⊎_elim (λ o. subst (λ l. IsIn l k) (sym first) o) (λ e. subst (λ j. IsIn mid.followed j) (sym e) done) h),
  );
  rest = λ k ne. kept_same mid new same k ∙ rest k ne;
  none = kept_same mid new same place ∙ none;
}

-- what is found at a point is given, and it is followed for the first time
pub given_first : (old mid new : Fresh) (place : ℕ) (found given : List Bool) → mid.followed ≡ old.followed → ((k : ℕ) → IsIn new.followed k ↔ (IsIn mid.followed k ⊎ (k ≡ place))) → new.sets ≡ mid.sets
    → ¬ IsIn mid.followed place → kept_at mid place ≡ [] → ((k : ℕ) → k ≢ place → kept_at mid k ≡ kept_at old k) → given ≡ found → IsGiven old new place found given
given_first old mid new place found given first second same never none rest gave = record {
  again = λ h. absurd (never (subst (λ l. IsIn l place) (sym first) h));
  first = λ h. gave;
  followed = λ k. subst (λ l. IsIn new.followed k ↔ (IsIn l k ⊎ (k ≡ place))) first (second k);
  rest = λ k ne. kept_same mid new same k ∙ rest k ne;
  none = kept_same mid new same place ∙ none;
}

nothing_in : (n : ℕ) → IsIn [] n → ⊥
nothing_in n h = cc

-- nothing is followed, and nothing found
pub open_blank : (f : Fresh) → f.followed ≡ [] → (count j : ℕ) → open_from f j (replicate count []) ≡ replicate count []
open_blank f none zero j = refl
open_blank f none (suc count) j =
    ap (λ l. l ∷ open_from f (j + 1) (replicate count [])) (open_first f j [] (λ h. nothing_in j (subst (λ l. IsIn l j) none h)))
    ∙ ap (λ ls. [] ∷ ls) (open_blank f none count (j + 1))

-- numbers are kept where none were
pub kept_first : (old mid new : Fresh) (place : ℕ) (y : List Bool) → mid.followed ≡ old.followed → new.followed ≡ mid.followed → ((k : ℕ) → k ≢ place → kept_at mid k ≡ kept_at old k)
    → ((k : ℕ) → k ≢ place → kept_at new k ≡ kept_at mid k) → [] ≡ kept_at old place → kept_at new place ≡ y → IsKept old new place (λ n. IsIn (kept_at old place) n ⊎ IsIn y n)
kept_first old mid new place y first second rest more none here =
    kept_more old mid new place [] y (IsIn y) first second rest more none here (λ n. (λ h. inr h, λ h. ⊎_elim (λ o. absurd (nothing_in n o)) (λ t. t) h))
