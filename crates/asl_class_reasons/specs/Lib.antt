pub mod Reasons
pub mod Without
-- Machinery of the proofs, not of the promise:
pub mod Draft
pub mod Chains
pub mod Following
