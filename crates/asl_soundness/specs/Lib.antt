pub mod Coded
pub mod Covering
pub mod Safe
pub mod Agrees
pub mod Nested
pub mod Protected
pub mod Wanted
