-- Leaves, their keys and their rows: a leaf is told by its numbers, one with a key has a row there, and each row is whole.
use Rattle.std.proofs.Common.{◌≡◌, ◌≢◌, ℕ, ◌+◌, ◌<◌, suc, zero, Bool, true, false, is_some, filter, if◌then◌else◌, List, [], ◌∷◌, length, slice_index, slice_index_or, slice_set, Option, None, Some, unwrap_or, refl, ap, sym, subst, ◌∙◌, ◌⊎◌, inl, inr, arith, ◌==◌, ◌&&◌}
use Rattle.std.proofs.lemmas.Bool.{cases_lt, and_parts, eqb-true, eq-eqb}
use Rattle.std.proofs.lemmas.List.{get_or-set_same, length-set, set-get_or, set_past, get_or-replicate}
use Rattle.std.proofs.lemmas.List.Elements.{All-set}
use Rattle.std.specs.Map.{lookup, lookup_key}
use Rattle.std.proofs.lemmas.Map.Made.{lookup_key_passes}
use Rattle.std.proofs.lemmas.List.Sums.{length-filter}
use Rattle.slab.specs.Slab.{Slab}
use Rattle.slab.specs.Slab as slab
use Rattle.std.specs.declared.result.Result.{Result}
use Rattle.std.specs.declared.result.Result.TheVariants.{Ok, Err}
use Rattle.std.specs.Result.{IsOk, OnOk, IfOk}
use Rattle.indexmap.specs.IndexMap as index
use Rattle.asl_mode_lanes.specs.Row.{IsRow, IsCode}
use Rattle.asl_lock_forest.specs.declared.leaves.Leaves.{Leaves}
use Rattle.asl_lock_forest.specs.Leaves.{width, IsWhole, Leaf, leaf_eq, zeros, row_under, key_of_leaf, leaf_row, IsHeldRow, IsKept}

-- two tests that both tell true
both : (a b : Bool) → a ≡ true → b ≡ true → (a && b) ≡ true
both a b p q = ap (λ x. x && b) p ∙ q

-- the test of two leaves tells whether they are one
pub tell_leaves : (a b : Leaf) → ((leaf_eq a b ≡ true) × (a ≡ b)) ⊎ ((leaf_eq a b ≡ false) × (a ≢ b))
tell_leaves a b = elim (leaf_eq a b) as (λ t. leaf_eq a b ≡ t → ((t ≡ true) × (a ≡ b)) ⊎ ((t ≡ false) × (a ≢ b))) [
  | true ↦ λ e.
      let front = (and_parts (a.0 == b.0 && a.1 == b.1) _ e).0 in
      let object = eqb-true a.0 b.0 (and_parts (a.0 == b.0) _ front).0 in
      let place = eqb-true a.1 b.1 (and_parts (a.0 == b.0) _ front).1 in
      let class = eqb-true a.2 b.2 (and_parts (a.0 == b.0 && a.1 == b.1) _ e).1 in
      inl (refl, λ i. (object i, place i, class i))
  | false ↦ λ e. inr (
    refl,
    λ same.
        let yes : leaf_eq a b ≡ true =
        both (a.0 == b.0 && a.1 == b.1) _ (both (a.0 == b.0) _ (eq-eqb a.0 b.0 (ap (λ l. l.0) same)) (eq-eqb a.1 b.1 (ap (λ l. l.1) same))) (eq-eqb a.2 b.2 (ap (λ l. l.2) same)) in
        let no : true ≡ false = sym yes ∙ e in
        cc,
  )
] refl

-- the leaf that is stored is the one that was looked for
pub found_leaf : (leaf stored : Leaf) (entries : List (Leaf × ℕ)) → Some stored ≡ lookup_key (leaf_eq leaf) entries → stored ≡ leaf
found_leaf leaf stored entries is = elim (tell_leaves leaf stored) [
  | inl same ↦ sym same.1
  | inr other ↦ let no : true ≡ false = sym (lookup_key_passes (leaf_eq leaf) entries stored (sym is)) ∙ other.0 in cc
]

-- what two options of numbers hold
pub some_same : {a b : ℕ} → Some a ≡ Some b → a ≡ b
some_same {a} {b} e = ap (λ o. unwrap_or o 0) e

-- a value written over another leaves the number of values
kept_number : {T : Type 0} (slots : List (Option T)) (key : ℕ) (old new : T) → slice_index_or slots key None ≡ Some old
    → length (filter is_some (slice_set slots key (Some new))) ≡ length (filter is_some slots)
kept_number [] key old new there = cc
kept_number (s ∷ slots) zero old new there = ap (λ b. length (if b then s ∷ filter is_some slots else filter is_some slots)) (sym (ap is_some there))
kept_number (s ∷ slots) (suc key) old new there =
    let rest = kept_number slots key old new there in
    go (is_some s) rest
  where
    go : (b : Bool) → length (filter is_some (slice_set slots key (Some new))) ≡ length (filter is_some slots)
        → length (if b then s ∷ filter is_some (slice_set slots key (Some new)) else filter is_some (slice_set slots key (Some new)))
        ≡ length (if b then s ∷ filter is_some slots else filter is_some slots)
    go true same = ap suc same
    go false same = same

-- so a row that is written leaves the number of rows
pub count_written : {T : Type 0} (rows : Slab T) (key : ℕ) (old new : T) → slab.get rows key ≡ Some old
    → slab.slab_len (slab.with_value rows key new) ≡ slab.slab_len rows
count_written rows key old new there =
    sym (length-filter is_some (slice_set rows.slots key (Some new))) ∙ kept_number rows.slots key old new there ∙ length-filter is_some rows.slots

none_found : (p : Leaf → Bool) (entries : List (Leaf × ℕ)) → length entries ≡ 0 → lookup p entries ≡ None
none_found p [] none = refl
none_found p (entry ∷ entries) none = absurd (omega (arith, none))

-- where the index has no entry, no leaf has a key
pub no_key : (leaves : Leaves) (leaf : Leaf) → index.index_map_len leaves.index ≡ 0 → key_of_leaf leaves leaf ≡ None
no_key leaves leaf none = none_found (leaf_eq leaf) leaves.index.entries none

-- a leaf with a key has a row there
pub key_there : (leaves : Leaves) → IsKept leaves → (leaf : Leaf) (key : ℕ) → key_of_leaf leaves leaf ≡ Some key → slab.ContainsKey leaves.rows key
key_there leaves kept leaf key is = let row = kept.there leaf key is in ap is_some row.1.0

-- its row is the one that stands there
pub row_there : (leaves : Leaves) (leaf : Leaf) (key : ℕ) (row : List ℕ) → key_of_leaf leaves leaf ≡ Some key → slab.get leaves.rows key ≡ Some row → leaf_row leaves leaf ≡ row
row_there leaves leaf key row is at = ap (row_under leaves) is ∙ ap (λ o. unwrap_or o zeros) at

-- a leaf of which neither key nor row changes keeps its row
pub other_row : (old new : Leaves) (q : Leaf) (key : ℕ) → key_of_leaf new q ≡ key_of_leaf old q
    → ((k : ℕ) → key_of_leaf old q ≡ Some k → k ≢ key)
    → ((k : ℕ) → k ≢ key → slab.get new.rows k ≡ slab.get old.rows k) → leaf_row new q ≡ leaf_row old q
other_row old new q key same apart others =
    ap (row_under new) same
    ∙ elim (key_of_leaf old q) as (λ o. key_of_leaf old q ≡ o → row_under new o ≡ row_under old o) [
      | None ↦ λ _. refl
      | Some k ↦ λ is. ap (λ o. unwrap_or o zeros) (others k (apart k is))
    ] refl

-- a row of zeros has codes
pub zeros_codes : IsRow zeros
zeros_codes k d there = subst IsCode (sym (get_or-replicate width k 0 d there)) refl

-- every leaf that is held has a whole row
pub row_codes : (leaves : Leaves) → IsKept leaves → (leaf : Leaf) → IsWhole (leaf_row leaves leaf)
row_codes leaves kept leaf =
    elim (key_of_leaf leaves leaf) as (λ o. key_of_leaf leaves leaf ≡ o → IsWhole (row_under leaves o)) [
      | None ↦ λ _. (refl, zeros_codes)
      | Some key ↦ λ is.
          let row = kept.there leaf key is in
          subst IsWhole (sym (ap (λ o. unwrap_or o zeros) row.1.0)) (row.1.1.len, row.1.1.codes)
    ] refl

-- a row with one more code
pub held_set : (row : List ℕ) (t code : ℕ) → length row ≡ width → IsRow row → t < width → IsCode code → code ≢ 0 → IsHeldRow (slice_set row t code)
held_set row t code long codes within is holds = record {
  len = length-set row t code ∙ long;
  codes = set_codes row t code codes is;
  some = λ none.
      let at : slice_index (slice_set row t code) t ≡ code = get_or-set_same row t code 0 (omega (arith, long)) in
      let zero_there : slice_index zeros t ≡ 0 = get_or-replicate width t 0 0 within in
      holds (sym at ∙ ap (λ r. slice_index r t) none ∙ zero_there);
}
  where
    set_codes : (row : List ℕ) (t code : ℕ) → IsRow row → IsCode code → IsRow (slice_set row t code)
    set_codes row t code codes is = All-set IsCode row t code is codes

-- what is said of a value that is there
pub on_ok : {T E : Type 0} {P : Type 0} (r : Result T E) → IsOk r → OnOk r P → P
on_ok (Ok x) there said = said
on_ok (Err e) there said = cc

-- a row with one code less
pub cleared_codes : (row : List ℕ) (t : ℕ) → IsRow row → IsRow (slice_set row t 0)
cleared_codes row t codes = All-set IsCode row t 0 refl codes

-- an entry put under a new key is one more
pub added_number : {E : Type 0} (was now : ℕ) {before : Option ℕ} (r : Result (Option ℕ) E) → before ≡ None → IsOk r
    → IfOk r (λ old. old ≡ before) → IfOk r (λ old. now ≡ was + (if is_some old then 0 else 1)) → now ≡ was + 1
added_number was now (Ok old) none there same len = len ∙ ap (λ o. was + (if is_some o then 0 else 1)) (same ∙ none)
added_number was now (Err e) none there same len = cc

-- a leaf with no row has one of zeros
pub no_row : (leaves : Leaves) (leaf : Leaf) (t : ℕ) → key_of_leaf leaves leaf ≡ None → leaf_row leaves leaf ≡ slice_set (leaf_row leaves leaf) t 0
no_row leaves leaf t none =
    let is : leaf_row leaves leaf ≡ zeros = ap (row_under leaves) none in
    is ∙ sym (ap (λ r. slice_set r t 0) is ∙ idle t)
  where
    idle : (t : ℕ) → slice_set zeros t 0 ≡ zeros
    idle t = elim (cases_lt t width) [
      | inl below ↦ ap (slice_set zeros t) (sym (get_or-replicate width t 0 0 below)) ∙ set-get_or zeros t 0
      | inr past ↦ set_past zeros t 0 past
    ]
