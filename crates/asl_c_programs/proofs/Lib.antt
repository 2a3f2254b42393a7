mod AsBox
pub mod Bodies
mod Intention
mod Numbered
mod Sectioned
mod Sends
