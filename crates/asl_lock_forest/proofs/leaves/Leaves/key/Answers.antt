use Rattle.std.proofs.Common.{sym}
use Rattle.asl_lock_forest.proofs.LeafLaws.{no_key}
use Rattle.asl_lock_forest.proofs.leaves.Leaves.key.Goals as goal

pub returns-then-is_empty : goal.returns-then-is_empty
returns-then-is_empty c = sym (no_key c.args.self.now c.args.leaf (c.is_empty.ensures.0 c.if-is_empty.true))
