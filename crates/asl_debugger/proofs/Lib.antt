pub mod ByTable
pub mod Halts
pub mod Marking
pub mod Marks
pub mod Places
pub mod Positions
pub mod Recording
