pub mod Bytes
pub mod Faults
pub mod Journal
pub mod Recorded
pub mod Paused
pub mod Replay
pub mod RunFile
-- Machinery of the proofs, not of the promise:
pub mod Computed
pub mod Fault
pub mod JournalFields
