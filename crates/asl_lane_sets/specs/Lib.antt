pub mod NumberSet
-- machinery of the proofs
pub mod Packed
