-- A clone of all leaves has the same rows.
use Rattle.std.proofs.Common.{◌≡◌, ℕ, is_some, count_by, List, length, slice_index_or, Option, None, Some, unwrap_or, refl, ap, sym, ◌∙◌}
use Rattle.std.proofs.lemmas.List.Elements.{same_from_all_zip}
use Rattle.std.proofs.lemmas.Map.Entries.{entries_from_clone}
use Rattle.std.specs.List.{AllZip, each_same}
use Rattle.std.specs.Map.{lookup}
use Rattle.std.specs.Array.{AllZipBelow}
use Rattle.slab.specs.Slab as slab
use Rattle.asl_lock_forest.specs.declared.leaves.Leaves.{Leaves}
use Rattle.asl_lock_forest.specs.Leaves.{width, Leaf, leaf_eq, zeros, row_under, key_of_leaf, leaf_row, IsKept}

-- Where each row and each entry of the index is a clone.

-- the clone of a row is the row
slot_same : (slot copy : Option (List ℕ)) → slab.IsSlotClone (λ row other. AllZipBelow (λ (x y : ℕ). y ≡ x) row other width) slot copy → copy ≡ slot
slot_same None copy is = is
slot_same (Some row) None is = absurd is
slot_same (Some row) (Some other) is = ap (λ r. Some r) (each_same row other is.whole)

-- the clone of a leaf is the leaf
leaf_same : (leaf copy : Leaf) → (copy.0 ≡ leaf.0) × (copy.1 ≡ leaf.1) × (copy.2 ≡ leaf.2) → copy ≡ leaf
leaf_same leaf copy is = λ i. (is.0 i, is.1 i, is.2 i)

-- so the cloned rows are the rows, and the cloned index is the index
pub copied_slots : (slots copies : List (Option (List ℕ)))
    → AllZip (slab.IsSlotClone (λ row other. AllZipBelow (λ (x y : ℕ). y ≡ x) row other width)) slots copies → copies ≡ slots
copied_slots slots copies is = same_from_all_zip (slab.IsSlotClone (λ row other. AllZipBelow (λ (x y : ℕ). y ≡ x) row other width)) slots copies is slot_same

pub copied_entries : (entries copies : List (Leaf × ℕ))
    → AllZip (λ p q. ((q.0.0 ≡ p.0.0) × (q.0.1 ≡ p.0.1) × (q.0.2 ≡ p.0.2)) × (q.1 ≡ p.1)) entries copies → copies ≡ entries
copied_entries entries copies is =
    entries_from_clone (λ (x y : Leaf). (y.0 ≡ x.0) × (y.1 ≡ x.1) × (y.2 ≡ x.2)) (λ (x y : ℕ). y ≡ x) leaf_same (λ x y same. same) entries copies is

module _ (old new : Leaves) (slots : new.rows.slots ≡ old.rows.slots) (entries : new.index.entries ≡ old.index.entries) where
  -- each leaf has the same key, and each key the same row
  same_key : (leaf : Leaf) → key_of_leaf new leaf ≡ key_of_leaf old leaf
  same_key leaf = ap (lookup (leaf_eq leaf)) entries

  same_slot : (key : ℕ) → slab.get new.rows key ≡ slab.get old.rows key
  same_slot key = ap (λ s. slice_index_or s key None) slots

  pub copied_same : (leaf : Leaf) → leaf_row new leaf ≡ leaf_row old leaf
  copied_same leaf =
      ap (row_under new) (same_key leaf)
      ∙ elim (key_of_leaf old leaf) as (λ o. row_under new o ≡ row_under old o) [ None ↦ refl | Some key ↦ ap (λ o. unwrap_or o zeros) (same_slot key) ]

  pub copied_kept : IsKept old → IsKept new
  copied_kept kept = record {
    there = λ leaf key is.
        let before = kept.there leaf key (sym (same_key leaf) ∙ is) in
        (before.0, (same_slot key ∙ before.1.0, before.1.1));
    apart = λ a b key at_a at_b. kept.apart a b key (sym (same_key a) ∙ at_a) (sym (same_key b) ∙ at_b);
    count = ap length entries ∙ kept.count ∙ sym (ap (count_by is_some) slots);
  }
