pub mod There
pub mod Same
pub mod Reducing
pub mod Absorbing
pub mod Covering
pub mod Fits
pub mod ClassBounds
pub mod Verifying
pub mod Making
pub mod Needing
pub mod Refusing
pub mod Sounding
pub mod Alike
pub mod Outcomes
pub mod Guarding
mod Above
mod Behind
