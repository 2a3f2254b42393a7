use Rattle.std.proofs.Common.{◌≡◌, ◌<◌, length, slice_set, slice_index_or, refl, ap, sym, subst, ◌∙◌}
use Rattle.std.specs.Vec.{with_item}
use Rattle.asl_lock_forest.specs.declared.rows.Rows.{Rows}
use Rattle.asl_lock_forest.specs.Node.{IsThere}
use Rattle.asl_lock_forest.specs.Leaves.{zeros}
use Rattle.asl_lock_forest.specs.Rows.{Sets}
use Rattle.asl_lock_forest.proofs.RowsLaws.{sets_root, sets_class, sets_leaf, any_default}
use Rattle.asl_lock_forest.proofs.rows.Rows.set.Goals as goal

pub returns-in-Root-clause-sets : goal.returns-in-Root-clause-sets
returns-in-Root-clause-sets c =
    let new : Rows = (record { root = slice_set c.args.self.now.root c.args.thread (c.args.code); classes = c.args.self.now.classes; leaves = c.args.self.now.leaves }) in
    subst (λ n. Sets c.args.self.now c.args.thread n (c.args.code) new) (sym c.in-Root.is)
    (sets_root c.args.self.now new c.args.thread (c.args.code) c.requires.kept c.requires.is_code refl refl refl)

pub returns-in-Class-clause-sets : goal.returns-in-Class-clause-sets
returns-in-Class-clause-sets c =
    let new : Rows = (record { root = c.args.self.now.root; classes = with_item c.args.self.now.classes c.in-Class.class (slice_set c.index_mut.result.now c.args.thread (c.args.code)); leaves = c.args.self.now.leaves }) in
    let there : c.in-Class.class < length c.args.self.now.classes.items = subst (IsThere (length c.args.self.now.classes.items)) c.in-Class.is c.requires.there in
    let was : c.index_mut.result.now ≡ slice_index_or c.args.self.now.classes.items c.in-Class.class zeros =
    c.index_mut.ensures.value ∙ any_default c.args.self.now.classes.items c.in-Class.class _ zeros there in
    subst (λ n. Sets c.args.self.now c.args.thread n (c.args.code) new) (sym c.in-Class.is)
    (sets_class c.args.self.now new c.args.thread (c.args.code) c.requires.kept c.requires.is_code c.in-Class.class there refl
    (ap (λ r. slice_set c.args.self.now.classes.items c.in-Class.class (slice_set r c.args.thread (c.args.code))) was) refl)

pub returns-in-Leaf-clause-sets : goal.returns-in-Leaf-clause-sets
returns-in-Leaf-clause-sets c =
    let new : Rows = (record { root = c.args.self.now.root; classes = c.args.self.now.classes; leaves = c.set.new.self }) in
    subst (λ n. Sets c.args.self.now c.args.thread n (c.args.code) new) (sym c.in-Leaf.is)
    (sets_leaf c.args.self.now new c.args.thread (c.args.code) c.requires.kept c.requires.is_code c.in-Leaf.cell c.in-Leaf.class refl refl
    c.set.ensures.kept c.set.ensures.changed c.set.ensures.others)
