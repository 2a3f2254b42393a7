use Rattle.std.proofs.Common.{sym}
use Rattle.asl_lock_forest.proofs.LeafLaws.{key_there}
use Rattle.asl_lock_forest.proofs.leaves.Leaves.row.Goals as goal

pub index-requires : goal.index-requires
index-requires c = key_there c.args.self.now c.requires c.args.leaf c.in-Some.key (sym c.in-Some.ensures)
