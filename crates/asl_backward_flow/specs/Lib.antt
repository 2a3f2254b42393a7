pub mod Needed
pub mod Closed
pub mod Flows
pub mod Based
-- Machinery of the proofs, not of the promise:
pub mod Found
pub mod Fresh
pub mod Spans
pub mod Graph
pub mod Follows
pub mod Masked
pub mod Entering
pub mod Parts
pub mod Grouped
