pub mod History
pub mod Ending
pub mod Refused
-- Machinery of the proofs, not of the promise:
pub mod Comparing
pub mod Working
pub mod Turning
pub mod Starting
