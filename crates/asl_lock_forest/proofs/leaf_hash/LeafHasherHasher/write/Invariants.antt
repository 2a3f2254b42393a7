use Rattle.std.proofs.Common.{◌≡◌, take, fold}
use Rattle.asl_lock_forest.specs.LeafHash.{round}
use Rattle.asl_lock_forest.proofs.leaf_hash.LeafHasherHasher.write.Given as goal

abbrev pub invariant-loop-byte : goal.invariant-loop-byte
invariant-loop-byte l = l.state ≡ fold round l.fn.self.state (take l.byte-index l.bytes)
