pub mod Words
pub mod Text
pub mod Faults
pub mod Canonical
-- Machinery of the proofs, not of the promise:
pub mod Reading
pub mod Writing
