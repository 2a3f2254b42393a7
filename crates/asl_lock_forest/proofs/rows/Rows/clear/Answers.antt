use Rattle.std.proofs.Common.{◌≡◌, ◌<◌, length, slice_set, slice_index_or, refl, ap, sym, subst, ◌∙◌}
use Rattle.std.specs.Vec.{with_item}
use Rattle.asl_lock_forest.specs.declared.rows.Rows.{Rows}
use Rattle.asl_lock_forest.specs.Node.{IsThere}
use Rattle.asl_lock_forest.specs.Leaves.{zeros}
use Rattle.asl_lock_forest.specs.Rows.{Sets}
use Rattle.asl_lock_forest.proofs.RowsLaws.{sets_root, sets_class, sets_leaf, any_default}
use Rattle.asl_lock_forest.proofs.rows.Rows.clear.Goals as goal

pub returns-in-Root : goal.returns-in-Root
returns-in-Root c =
    let new : Rows = (record { root = slice_set c.args.self.now.root c.args.thread (0); classes = c.args.self.now.classes; leaves = c.args.self.now.leaves }) in
    subst (λ n. Sets c.args.self.now c.args.thread n (0) new) (sym c.in-Root.is)
    (sets_root c.args.self.now new c.args.thread (0) c.requires.kept refl refl refl refl)

pub returns-in-Class : goal.returns-in-Class
returns-in-Class c =
    let new : Rows = (record { root = c.args.self.now.root; classes = with_item c.args.self.now.classes c.in-Class.class (slice_set c.index_mut.result.now c.args.thread (0)); leaves = c.args.self.now.leaves }) in
    let there : c.in-Class.class < length c.args.self.now.classes.items = subst (IsThere (length c.args.self.now.classes.items)) c.in-Class.is c.requires.there in
    let was : c.index_mut.result.now ≡ slice_index_or c.args.self.now.classes.items c.in-Class.class zeros =
    c.index_mut.ensures.value ∙ any_default c.args.self.now.classes.items c.in-Class.class _ zeros there in
    subst (λ n. Sets c.args.self.now c.args.thread n (0) new) (sym c.in-Class.is)
    (sets_class c.args.self.now new c.args.thread (0) c.requires.kept refl c.in-Class.class there refl
    (ap (λ r. slice_set c.args.self.now.classes.items c.in-Class.class (slice_set r c.args.thread (0))) was) refl)

pub returns-in-Leaf : goal.returns-in-Leaf
returns-in-Leaf c =
    let new : Rows = (record { root = c.args.self.now.root; classes = c.args.self.now.classes; leaves = c.clear.new.self }) in
    subst (λ n. Sets c.args.self.now c.args.thread n (0) new) (sym c.in-Leaf.is)
    (sets_leaf c.args.self.now new c.args.thread (0) c.requires.kept refl c.in-Leaf.cell c.in-Leaf.class refl refl
    c.clear.ensures.kept c.clear.ensures.changed c.clear.ensures.others)
