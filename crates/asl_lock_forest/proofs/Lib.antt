pub mod Laws
pub mod Requests
pub mod Lawful
pub mod NinePairs
pub mod KeyLaws
pub mod Swaps
pub mod Grantable
mod LeafLaws
mod LeafWrites
mod LeafCopies
mod ListLaws
mod RowsLaws
mod RequestRows
mod RowFronts
mod SoundLaws
