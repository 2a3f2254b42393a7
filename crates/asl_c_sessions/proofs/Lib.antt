mod AsBox
mod Lines
mod Owners
mod Sends
mod Statuses
