pub mod Replies
pub mod Trace
pub mod Lines
pub mod Objects
pub mod Nodes
pub mod View
pub mod Stack
pub mod Asks
-- Machinery of private functions, not of the promise:
pub mod About
