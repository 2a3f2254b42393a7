use Rattle.std.proofs.Common.{Some, ap, sym, ◌∙◌}
use Rattle.asl_lock_forest.specs.Leaves.{Leaf}
use Rattle.asl_lock_forest.proofs.LeafLaws.{found_leaf}
use Rattle.asl_lock_forest.proofs.leaves.Leaves.place.Goals as goal

pub returns-in-Some : goal.returns-in-Some
returns-in-Some c =
    let found = c.in-Some.ensures in
    let same = found_leaf c.args.leaf c.in-Some._stored.now c.args.self.now.index.entries found.key in
    (found.entry ∙ ap (λ (l : Leaf). Some (l, c.in-Some.key.now)) same, sym found.value)
