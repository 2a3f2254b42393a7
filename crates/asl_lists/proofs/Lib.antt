pub mod Entries
pub mod Lengths
pub mod Made
pub mod Named
pub mod Plain
pub mod Texts
pub mod Written
