pub mod ClassOf
pub mod Links
pub mod LinksView
pub mod Partings
pub mod Stores
pub mod Order
pub mod Agrees
-- Machinery of the proofs, not of the promise:
pub mod Storing
pub mod Placing
pub mod Meeting
pub mod Touches
