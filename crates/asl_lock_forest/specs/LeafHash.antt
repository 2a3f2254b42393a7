-- Machinery of the proofs, not of the promise: the hash of a leaf, a round of FNV-1a for each byte
-- (docs/LOCKS.md, "Lawful holdings").
use Rattle.std.specs.Prelude.{ℕ, ◌*◌, ◌%◌, ◌^◌, List, fold, bit_xor}
use Rattle.asl_lock_forest.specs.declared.leaf_hash.LeafHasher.{LeafHasher}

-- one round
abbrev pub round : ℕ → ℕ → ℕ
round state byte = (bit_xor state byte * 0x100000001b3) % 2 ^ 64

-- a round for each byte
abbrev pub written : LeafHasher → List ℕ → LeafHasher
written h bytes = record { state = fold round h.state bytes }
