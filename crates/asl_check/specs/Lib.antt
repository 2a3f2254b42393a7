pub mod Checked
pub mod Refused
pub mod Missing
-- Machinery of the proofs, not of the promise:
pub mod KnownLists
