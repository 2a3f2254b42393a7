pub mod Node
pub mod Keys
pub mod Holding
pub mod Request
pub mod Held
-- Machinery of the proofs, not of the promise:
pub mod Lists
pub mod LeafHash
pub mod Leaves
pub mod Rows
pub mod Sound
