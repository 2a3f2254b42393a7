pub mod Classes
pub mod Refused
pub mod Sets
-- Machinery of the proofs, not of the promise:
pub mod Draft
pub mod Flows
pub mod Found
pub mod Numbers
