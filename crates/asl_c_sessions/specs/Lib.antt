pub mod Pages
pub use Rattle.asl_c_memory.specs.Buffer
pub mod Opening
pub mod Status
-- Machinery: what a handle owns.
pub mod Owned
