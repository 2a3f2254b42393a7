pub use Rattle.asl_c_memory.specs.Buffer
pub mod Called
pub mod Words
