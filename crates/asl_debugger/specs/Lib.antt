pub mod Breaks
pub mod Opening
pub mod Paused
pub mod Session
-- Machinery of the proofs, not of the promise:
pub mod Computed
pub mod Fault
pub mod Checkpoints
pub mod Growing
pub mod Search
pub mod Halts
