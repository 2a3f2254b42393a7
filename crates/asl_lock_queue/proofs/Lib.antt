pub mod OrderLaws
pub mod RisingLaws
mod TogetherLaws
mod ParentLaws
mod ListFacts
mod HoldingLists
mod HolderLaws
mod SeatLaws
mod LineLaws
mod ServingLaws
mod ServingFacts
mod StateLaws
mod SoundLaws
