pub mod Numbered
pub mod Places
pub mod Kinds
pub mod Texts
pub mod Chains
pub mod Grounds
pub mod Classes
pub mod Reasoned
-- Machinery of the proofs, not of the promise:
pub mod Made
