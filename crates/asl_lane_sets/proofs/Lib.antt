pub mod ComparedLanes
pub mod Blocks
pub mod Numbers
pub mod CombinedNumbers
pub mod Parts
pub mod Members
pub mod CommonNumbers
