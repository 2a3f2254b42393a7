pub mod Lists
pub mod Inferred
pub mod Refused
pub mod Sources
-- Machinery of the proofs, not of the promise:
pub mod Faults
pub mod BuiltImage
pub mod Above
