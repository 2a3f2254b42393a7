use Rattle.std.proofs.Common.{◌≡◌, ℕ, Option, None, Some, is_some, true, if◌then◌else◌, IfSome, ap, sym, subst, ◌∙◌}
use Rattle.indexmap.specs.IndexMap.{Updates}
use Rattle.asl_lock_forest.specs.Leaves.{Leaf, leaf_eq}
use Rattle.asl_lock_forest.proofs.LeafLaws.{key_there, no_row}
use Rattle.asl_lock_forest.proofs.LeafWrites.{cleared_kept, cleared_others, emptied_kept, emptied_row, emptied_others, looked_at}
use Rattle.asl_lock_forest.proofs.leaves.Leaves.clear.Goals as goal

pub index_mut-requires : goal.index_mut-requires
index_mut-requires c = key_there c.args.self.now c.requires.kept c.args.leaf c.in-Some.key c.in-Some.ensures.1

pub returns-else-is_idle-clause-kept : goal.returns-else-is_idle-clause-kept
returns-else-is_idle-clause-kept c =
    cleared_kept c.args.self.now c.requires.kept c.args.leaf c.in-Some.key c.in-Some.ensures.1
    c.index_mut.result.now c.index_mut.ensures.value c.args.thread
    (λ none.
    let idle : c.is_idle.result ≡ true = c.is_idle.ensures.1 (looked_at c.args.self.now c.requires.kept c.args.leaf c.in-Some.key c.in-Some.ensures.1
    c.index_mut.result.now c.index_mut.ensures.value c.args.thread c.index.result.now c.index.ensures ∙ none) in
    let no = c.if-is_idle.false in
    cc)

pub returns-else-is_idle-clause-others : goal.returns-else-is_idle-clause-others
returns-else-is_idle-clause-others c =
    cleared_others c.args.self.now c.requires.kept c.args.leaf c.in-Some.key c.in-Some.ensures.1
    c.index_mut.result.now c.index_mut.ensures.value c.args.thread

module _ (c : goal.After-swap_remove_index) where
  removed : c.swap_remove_index.result ≡ Some (c.args.leaf, c.in-Some.key)
  removed = c.swap_remove_index.ensures.entry ∙ c.in-Some.ensures.0

  keys : Updates leaf_eq c.args.self.now.index c.swap_remove_index.new.self c.args.leaf None
  keys = subst (λ (o : Option (Leaf × ℕ)). IfSome o (λ p. Updates leaf_eq c.args.self.now.index c.swap_remove_index.new.self p.0 None)) removed c.swap_remove_index.ensures.updates

pub returns-then-is_idle-clause-kept : goal.returns-then-is_idle-clause-kept
returns-then-is_idle-clause-kept c =
    emptied_kept c.args.self.now c.requires.kept c.args.leaf c.in-Some.key c.in-Some.ensures.1
    c.index_mut.result.now c.index_mut.ensures.value c.args.thread (record { rows = c.remove.new.self; index = c.swap_remove_index.new.self })
    (keys c).0 c.remove.ensures.updates.others _
    (ap (λ o. if is_some o then 1 else 0) (removed c)) c.swap_remove_index.ensures.len c.remove.ensures.len

pub returns-then-is_idle-clause-changed : goal.returns-then-is_idle-clause-changed
returns-then-is_idle-clause-changed c =
    emptied_row c.args.self.now c.requires.kept c.args.leaf c.in-Some.key c.in-Some.ensures.1
    c.index_mut.result.now c.index_mut.ensures.value c.args.thread (record { rows = c.remove.new.self; index = c.swap_remove_index.new.self })
    (keys c).0 c.remove.ensures.updates.others (sym (looked_at c.args.self.now c.requires.kept c.args.leaf c.in-Some.key c.in-Some.ensures.1
    c.index_mut.result.now c.index_mut.ensures.value c.args.thread c.index.result.now c.index.ensures) ∙ c.is_idle.ensures.0 c.if-is_idle.true)

pub returns-then-is_idle-clause-others : goal.returns-then-is_idle-clause-others
returns-then-is_idle-clause-others c =
    emptied_others c.args.self.now c.requires.kept c.args.leaf c.in-Some.key c.in-Some.ensures.1
    c.index_mut.result.now c.index_mut.ensures.value c.args.thread (record { rows = c.remove.new.self; index = c.swap_remove_index.new.self })
    (keys c).0 c.remove.ensures.updates.others

pub returns-in-None-clause-changed : goal.returns-in-None-clause-changed
returns-in-None-clause-changed c = no_row c.args.self.now c.args.leaf c.args.thread c.in-None.ensures
