pub mod Opening
pub use Rattle.asl_c_memory.specs.Buffer
pub mod Tables
pub mod Locks
pub mod Nodes
pub mod Status
pub mod Requests
-- Machinery: what a handle owns.
pub mod Owned
