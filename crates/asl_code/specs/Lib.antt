pub mod Operands
pub mod Spelling
pub mod Bodies
pub mod Locks
pub mod Versions
pub mod Verified
pub mod Fits
-- Machinery of the proofs, not of the promise:
pub mod Rules
pub mod Reading
pub mod ReadingValue
