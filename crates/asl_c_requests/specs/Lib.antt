pub mod Shown
pub mod Requested
-- Machinery of the proofs, not of the promise:
pub mod Traced
pub mod Placed
