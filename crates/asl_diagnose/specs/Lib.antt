pub mod RefusalText
pub mod Diagnosed
pub mod Brought
pub mod InferPlaces
pub mod Names
pub mod Bringing
-- Machinery of the proofs, not of the promise:
pub mod Crowded
