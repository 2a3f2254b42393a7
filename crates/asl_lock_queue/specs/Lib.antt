pub mod Order
pub mod Asks
pub mod Waiting
pub mod QueueState
pub mod Served
-- Machinery of the proofs, not of the promise:
pub mod Front
pub mod Lines
pub mod Serving
