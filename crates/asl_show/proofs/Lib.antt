mod Texts
mod Lines
mod Silent
mod Clashes
mod Frames
