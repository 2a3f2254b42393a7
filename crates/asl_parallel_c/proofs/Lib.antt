pub mod Parts
pub mod Externs
pub mod Rows
pub mod Bodies
pub mod Templates
pub mod Locals
