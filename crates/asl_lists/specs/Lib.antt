pub mod Numbered
pub mod Places
pub mod Document
pub mod Driver
pub mod Lengths
pub mod Listed
-- Machinery of the proofs, not of the promise:
pub mod Written
