use Rattle.std.proofs.Common.{◌≡◌, ◌+◌, ℕ, List, length, slice_set, Some, None, ap, sym, refl, ◌∙◌, subst, arith}
use Rattle.slab.specs.Slab as slab
use Rattle.std.specs.Result.{IsOk}
use Rattle.indexmap.specs.IndexMap.{Updates as Updates-index}
use Rattle.slab.specs.Slab.{Updates}
use Rattle.slab.proofs.SlabLemmas.{Updates-with_value}
use Rattle.asl_mode_lanes.specs.Row.{IsRow}
use Rattle.asl_lock_forest.specs.declared.leaves.Leaves.{Leaves}
use Rattle.asl_lock_forest.specs.Leaves.{key_of_leaf, leaf_row, leaf_eq, zeros}
use Rattle.asl_lock_forest.proofs.LeafLaws.{key_there, row_there, row_codes, held_set, count_written, added_number, on_ok, zeros_codes}
use Rattle.asl_lock_forest.proofs.LeafWrites.{written_others, written_there, written_kept, made_others, made_kept}
use Rattle.asl_lock_forest.proofs.leaves.Leaves.set.Goals as goal

pub index_mut-requires : goal.index_mut-requires
index_mut-requires c = key_there c.args.self.now c.requires.kept c.args.leaf c.in-Some.key (sym c.in-Some.ensures)

module _ (c : goal.After-self-1) where
  found : key_of_leaf c.args.self.now c.args.leaf ≡ Some c.in-Some.key
  found = sym c.in-Some.ensures

  -- the row that was there, and the one that is written
  before : leaf_row c.args.self.now c.args.leaf ≡ c.index_mut.result.now
  before = row_there c.args.self.now c.args.leaf c.in-Some.key c.index_mut.result.now found c.index_mut.ensures.value

  abbrev row : List ℕ
  row = slice_set c.index_mut.result.now c.args.thread c.args.code

  abbrev new : Leaves
  new = record { rows = slab.with_value c.args.self.now.rows c.in-Some.key row; index = c.args.self.now.index }

  writes : Updates c.args.self.now.rows new.rows c.in-Some.key (Some row)
  writes = Updates-with_value c.args.self.now.rows c.in-Some.key row (key_there c.args.self.now c.requires.kept c.args.leaf c.in-Some.key found)

pub returns-in-Some-clause-kept : goal.returns-in-Some-clause-kept
returns-in-Some-clause-kept c =
    let is = row_codes c.args.self.now c.requires.kept c.args.leaf in
    written_kept c.args.self.now c.requires.kept c.args.leaf c.in-Some.key (found c) (row c) (new c) (λ q. refl) (writes c)
    (held_set c.index_mut.result.now c.args.thread c.args.code (ap length (sym (before c)) ∙ is.0) (subst IsRow (before c) is.1) c.requires.thread_there c.requires.is_code c.requires.holds)
    (c.requires.kept.count ∙ sym (count_written c.args.self.now.rows c.in-Some.key c.index_mut.result.now (row c) c.index_mut.ensures.value))

pub returns-in-Some-clause-changed : goal.returns-in-Some-clause-changed
returns-in-Some-clause-changed c =
    written_there c.args.self.now c.requires.kept c.args.leaf c.in-Some.key (found c) (row c) (new c) (λ q. refl) (writes c)
    ∙ ap (λ r. slice_set r c.args.thread c.args.code) (sym (before c))

pub returns-in-Some-clause-others : goal.returns-in-Some-clause-others
returns-in-Some-clause-others c =
    written_others c.args.self.now c.requires.kept c.args.leaf c.in-Some.key (found c) (row c) (new c) (λ q. refl) (writes c)

module _ (c : goal.After-insert) where
  none : key_of_leaf c.args.self.now c.args.leaf ≡ None
  none = sym c.in-None.ensures

  fits : IsOk c.insert.result
  fits = c.insert.ensures.succeeds (let room = c.requires.room.index in omega (arith, room))

  keys : Updates-index leaf_eq c.args.self.now.index c.insert.new.self c.args.leaf (Some c.insert_reserved-key.result)
  keys = on_ok c.insert.result fits c.insert.ensures.updates

  abbrev made : Leaves
  made = record { rows = c.insert_reserved-key.new.self; index = c.insert.new.self }

pub returns-in-None-clause-kept : goal.returns-in-None-clause-kept
returns-in-None-clause-kept c =
    made_kept c.args.self.now (made c) c.requires.kept c.args.leaf (none c) c.insert_reserved-key.result (slice_set zeros c.args.thread c.args.code)
    c.insert_reserved-key.ensures.was_vacant c.insert_reserved-key.ensures.updates (keys c).0
    (held_set zeros c.args.thread c.args.code refl zeros_codes c.requires.thread_there c.requires.is_code c.requires.holds)
    (added_number _ _ c.insert.result (none c) (fits c) c.insert.ensures.old c.insert.ensures.len ∙ ap (λ n. n + 1) c.requires.kept.count ∙ sym c.insert_reserved-key.ensures.len)

pub returns-in-None-clause-others : goal.returns-in-None-clause-others
returns-in-None-clause-others c =
    made_others c.args.self.now (made c) c.requires.kept c.args.leaf (none c) c.insert_reserved-key.result (slice_set zeros c.args.thread c.args.code)
    c.insert_reserved-key.ensures.was_vacant c.insert_reserved-key.ensures.updates (keys c).0
