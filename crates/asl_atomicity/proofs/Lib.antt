-- what the steps of two threads do to each other
pub mod Uniform
pub mod HoldingEdits
pub mod Stores
pub mod Unseen
pub mod Away
pub mod Entries
pub mod Guards
-- neighbouring steps change places
pub mod Swapping
pub mod Swaps
pub mod Moves
pub mod Outside
-- runs that make no object inside sections
pub mod RunParts
pub mod Reaching
pub mod Serials
pub mod Atomicity
-- other numbers for objects
pub mod Renaming
pub mod RenamedHeaps
pub mod RenamedValues
pub mod RenamedObjects
pub mod RenamedInstructions
pub mod RenamedSteps
pub mod Renamings
pub mod SpokenObjects
pub mod Staying
-- runs up to the numbers of objects
pub mod Growing
pub mod Commuting
pub mod CrossedObjects
pub mod Making
pub mod Inserting
pub mod UpTo
-- runs by the instruction table
pub mod Computed
pub mod ByTable
