pub mod Compiled
pub mod Journals
pub mod RaceFree
