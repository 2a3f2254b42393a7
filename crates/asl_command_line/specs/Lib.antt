pub mod Number
pub mod Arguments
pub mod Names
pub mod Externs
pub mod Pages
pub mod Usage
pub mod Words
-- Machinery of the proofs, not of the promise:
pub mod Building
pub mod Reading
pub mod Apart
pub mod HeldTexts
