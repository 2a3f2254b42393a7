pub mod Template
pub mod Names
pub mod Instrs
pub mod Lists
pub mod Functions
pub mod Text
