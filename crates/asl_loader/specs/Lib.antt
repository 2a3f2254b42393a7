pub mod Bytes
pub mod SharedFields
pub mod Faults
-- Machinery of the proofs, not of the promise to users:
pub mod ImageFields
pub mod Writing
