pub mod Reached
pub mod Pieces
pub mod Placed
pub mod Origin
pub mod Areas
pub mod Names
pub mod Text
pub mod Lines
pub mod Mapped
-- Machinery of the proofs, not of the promise:
pub mod Taken
pub mod Walked
pub mod BuiltMap
