pub mod Chains
pub mod Explained
pub mod ClassReasons
pub mod Told
-- Machinery of the proofs, not of the promise:
pub mod Analysed
pub mod Endings
pub mod Gaps
pub mod Known
pub mod Lengths
pub mod Opened
pub mod Telling
pub mod TellingChains
pub mod TellingLists
