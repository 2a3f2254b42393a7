-- The rows of leaves after a write, after a new row, and after a row is taken away: the leaf has the row that it should, and each other
-- leaf keeps its own.
use Rattle.std.proofs.Common.{◌≡◌, ◌≢◌, ℕ, ◌+◌, cond, List, length, slice_set, None, Some, unwrap_or, refl, ap, sym, subst, ◌∙◌, inl, inr, arith}
use Rattle.std.proofs.lemmas.List.{length-set}
use Rattle.slab.specs.Slab.{Updates}
use Rattle.slab.specs.Slab as slab
use Rattle.indexmap.specs.IndexMap as index
use Rattle.slab.proofs.SlabLemmas.{Updates-with_value}
use Rattle.asl_mode_lanes.specs.Row.{IsRow}
use Rattle.asl_lock_forest.specs.declared.leaves.Leaves.{Leaves}
use Rattle.asl_lock_forest.specs.Leaves.{Leaf, leaf_eq, zeros, row_under, key_of_leaf, leaf_row, IsHeldRow, IsKept}
use Rattle.asl_lock_forest.proofs.LeafLaws.{tell_leaves, some_same, count_written, key_there, row_there, other_row, row_codes, cleared_codes}

module _ (old : Leaves) (kept : IsKept old) (leaf : Leaf) (key : ℕ) (found : key_of_leaf old leaf ≡ Some key) where
  -- Where the leaf has a row, it is written over.
  module _ (row : List ℕ) (new : Leaves) (same : (q : Leaf) → key_of_leaf new q ≡ key_of_leaf old q)
      (writes : Updates old.rows new.rows key (Some row)) where
    pub written_others : (q : Leaf) → q ≢ leaf → leaf_row new q ≡ leaf_row old q
    written_others q apart = other_row old new q key (same q) (λ k is e. apart (kept.apart q leaf key (is ∙ ap (λ x. Some x) e) found)) writes.others

    pub written_there : leaf_row new leaf ≡ row
    written_there = row_there new leaf key row (same leaf ∙ found) writes.changed

    pub written_kept : IsHeldRow row → index.index_map_len new.index ≡ slab.slab_len new.rows → IsKept new
    written_kept good count = record {
      there = λ q k is. elim (tell_leaves q leaf) [
        | inl own ↦
            let here : k ≡ key = some_same (sym (sym (same q) ∙ is) ∙ ap (key_of_leaf old) own.1 ∙ found) in
            (row, (ap (slab.get new.rows) here ∙ writes.changed, good))
        | inr other ↦
            let before = kept.there q k (sym (same q) ∙ is) in
            (before.0, (writes.others k (λ e. other.1 (kept.apart q leaf key (sym (same q) ∙ is ∙ ap (λ x. Some x) e) found)) ∙ before.1.0, before.1.1))
      ];
      apart = λ a b k at_a at_b. kept.apart a b k (sym (same a) ∙ at_a) (sym (same b) ∙ at_b);
      count = count;
    }

  -- Where no code is left in the row, the row and its key are taken away.
  module _ (new : Leaves) (gone : (q : Leaf) → key_of_leaf new q ≡ cond (leaf_eq leaf q) None (key_of_leaf old q))
      (others : (k : ℕ) → k ≢ key → slab.get new.rows k ≡ slab.get old.rows k) where
    gone_other : (q : Leaf) → q ≢ leaf → key_of_leaf new q ≡ key_of_leaf old q
    gone_other q apart = elim (tell_leaves leaf q) [
      | inl own ↦ absurd (apart (sym own.1))
      | inr other ↦ gone q ∙ ap (λ b. cond b None (key_of_leaf old q)) other.0
    ]

    gone_there : key_of_leaf new leaf ≡ None
    gone_there = elim (tell_leaves leaf leaf) [
      | inl own ↦ gone leaf ∙ ap (λ b. cond b None (key_of_leaf old leaf)) own.0
      | inr other ↦ absurd (other.1 refl)
    ]

    pub gone_others : (q : Leaf) → q ≢ leaf → leaf_row new q ≡ leaf_row old q
    gone_others q apart = other_row old new q key (gone_other q apart) (λ k is e. apart (kept.apart q leaf key (is ∙ ap (λ x. Some x) e) found)) others

    pub gone_row : leaf_row new leaf ≡ zeros
    gone_row = ap (row_under new) gone_there

    pub gone_kept : index.index_map_len new.index ≡ slab.slab_len new.rows → IsKept new
    gone_kept count = record {
      there = λ q k is. elim (tell_leaves q leaf) [
        | inl own ↦ let no : None ≡ Some k = sym gone_there ∙ ap (key_of_leaf new) (sym own.1) ∙ is in cc
        | inr other ↦
            let before_key = sym (gone_other q other.1) ∙ is in
            let before = kept.there q k before_key in
            (before.0, (others k (λ e. other.1 (kept.apart q leaf key (before_key ∙ ap (λ x. Some x) e) found)) ∙ before.1.0, before.1.1))
      ];
      apart = λ a b k at_a at_b. kept.apart a b k (back a k at_a) (back b k at_b);
      count = count;
    }
      where
        back : (q : Leaf) (k : ℕ) → key_of_leaf new q ≡ Some k → key_of_leaf old q ≡ Some k
        back q k is = elim (tell_leaves q leaf) [
          | inl own ↦ let no : None ≡ Some k = sym gone_there ∙ ap (key_of_leaf new) (sym own.1) ∙ is in cc
          | inr other ↦ sym (gone_other q other.1) ∙ is
        ]

-- Where the leaf has no row, a new one is made.
module _ (old new : Leaves) (kept : IsKept old) (leaf : Leaf) (none : key_of_leaf old leaf ≡ None) (key : ℕ) (row : List ℕ)
    (vacant : slab.get old.rows key ≡ None) (writes : Updates old.rows new.rows key (Some row))
    (keys : (q : Leaf) → key_of_leaf new q ≡ cond (leaf_eq leaf q) (Some key) (key_of_leaf old q)) where
  -- no other leaf gets a key
  made_other : (q : Leaf) → q ≢ leaf → key_of_leaf new q ≡ key_of_leaf old q
  made_other q apart = elim (tell_leaves leaf q) [
    | inl own ↦ absurd (apart (sym own.1))
    | inr other ↦ keys q ∙ ap (λ b. cond b (Some key) (key_of_leaf old q)) other.0
  ]

  made_key : key_of_leaf new leaf ≡ Some key
  made_key = elim (tell_leaves leaf leaf) [
    | inl own ↦ keys leaf ∙ ap (λ b. cond b (Some key) (key_of_leaf old leaf)) own.0
    | inr other ↦ absurd (other.1 refl)
  ]

  -- a key of the index is not a vacant key
  used : (q : Leaf) (k : ℕ) → key_of_leaf old q ≡ Some k → k ≢ key
  used q k is e =
      let row_at = kept.there q k is in
      let no : None ≡ Some row_at.0 = sym vacant ∙ ap (slab.get old.rows) (sym e) ∙ row_at.1.0 in
      cc

  pub made_others : (q : Leaf) → q ≢ leaf → leaf_row new q ≡ leaf_row old q
  made_others q apart = other_row old new q key (made_other q apart) (used q) writes.others

  pub made_row : leaf_row new leaf ≡ row
  made_row = row_there new leaf key row made_key writes.changed

  pub made_kept : IsHeldRow row → index.index_map_len new.index ≡ slab.slab_len new.rows → IsKept new
  made_kept good count = record {
    there = λ q k is. elim (tell_leaves q leaf) [
      | inl own ↦
          let here : k ≡ key = some_same (sym is ∙ ap (key_of_leaf new) own.1 ∙ made_key) in
          (row, (ap (slab.get new.rows) here ∙ writes.changed, good))
      | inr other ↦
          let before_key = sym (made_other q other.1) ∙ is in
          let before = kept.there q k before_key in
          (before.0, (writes.others k (used q k before_key) ∙ before.1.0, before.1.1))
    ];
    apart = λ a b k at_a at_b. elim (tell_leaves a leaf) [
      | inl own_a ↦ elim (tell_leaves b leaf) [
        | inl own_b ↦ own_a.1 ∙ sym own_b.1
        | inr other ↦ absurd (used b k (sym (made_other b other.1) ∙ at_b) (some_same (sym at_a ∙ ap (key_of_leaf new) own_a.1 ∙ made_key)))
      ]
      | inr other_a ↦ elim (tell_leaves b leaf) [
        | inl own_b ↦ absurd (used a k (sym (made_other a other_a.1) ∙ at_a) (some_same (sym at_b ∙ ap (key_of_leaf new) own_b.1 ∙ made_key)))
        | inr other_b ↦ kept.apart a b k (sym (made_other a other_a.1) ∙ at_a) (sym (made_other b other_b.1) ∙ at_b)
      ]
    ];
    count = count;
  }

-- Where the thread's code is taken from the row that the leaf has.
module _ (old : Leaves) (kept : IsKept old) (leaf : Leaf) (key : ℕ) (found : key_of_leaf old leaf ≡ Some key)
    (was : List ℕ) (at : slab.get old.rows key ≡ Some was) (t : ℕ) where
  abbrev pub cleared : Leaves
  cleared = record { rows = slab.with_value old.rows key (slice_set was t 0); index = old.index }

  writes : Updates old.rows cleared.rows key (Some (slice_set was t 0))
  writes = Updates-with_value old.rows key (slice_set was t 0) (key_there old kept leaf key found)

  before : leaf_row old leaf ≡ was
  before = row_there old leaf key was found at

  -- what is read at the key is what was written
  pub looked_at : (seen : List ℕ) → slab.get cleared.rows key ≡ Some seen → seen ≡ slice_set was t 0
  looked_at seen is = ap (λ o. unwrap_or o zeros) (sym is ∙ writes.changed)

  pub cleared_kept : slice_set was t 0 ≢ zeros → IsKept cleared
  cleared_kept some =
      let is = row_codes old kept leaf in
      written_kept old kept leaf key found (slice_set was t 0) cleared (λ q. refl) writes
      (record { len = length-set was t 0 ∙ ap length (sym before) ∙ is.0; codes = cleared_codes was t (subst IsRow before is.1); some = some })
      (kept.count ∙ sym (count_written old.rows key was (slice_set was t 0) at))

  pub cleared_others : (q : Leaf) → q ≢ leaf → leaf_row cleared q ≡ leaf_row old q
  cleared_others = written_others old kept leaf key found (slice_set was t 0) cleared (λ q. refl) writes

  module _ (new : Leaves) (gone : (q : Leaf) → key_of_leaf new q ≡ cond (leaf_eq leaf q) None (key_of_leaf old q))
      (others : (k : ℕ) → k ≢ key → slab.get new.rows k ≡ slab.get cleared.rows k) where
    all_others : (k : ℕ) → k ≢ key → slab.get new.rows k ≡ slab.get old.rows k
    all_others k apart = others k apart ∙ writes.others k apart

    pub emptied_kept : (some : ℕ) → some ≡ 1 → index.index_map_len new.index + some ≡ index.index_map_len old.index
        → slab.slab_len new.rows + 1 ≡ slab.slab_len cleared.rows → IsKept new
    emptied_kept some one keys rows =
        let same = count_written old.rows key was (slice_set was t 0) at in
        let count = kept.count in
        gone_kept old kept leaf key found new gone all_others (omega (arith, one, keys, rows, same, count))

    pub emptied_row : slice_set was t 0 ≡ zeros → leaf_row new leaf ≡ slice_set (leaf_row old leaf) t 0
    emptied_row none = gone_row old kept leaf key found new gone all_others ∙ sym none ∙ ap (λ r. slice_set r t 0) (sym before)

    pub emptied_others : (q : Leaf) → q ≢ leaf → leaf_row new q ≡ leaf_row old q
    emptied_others = gone_others old kept leaf key found new gone all_others
