pub use Rattle.asl_lock_queue.specs.Asks
pub mod Status
pub mod QueueStatus
-- Machinery: what a request must be for the forest, whether an ask is plain, and what a handle owns.
pub mod Fits
pub mod Plain
pub mod Owned
