pub mod Assembly
pub mod Words
