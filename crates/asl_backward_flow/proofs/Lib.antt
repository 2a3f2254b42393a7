-- sets, lists and rows
mod Sets
mod ReplacedLists
mod Tables
mod Marks
mod Freshness
mod Keeping
mod Rows
mod CallRows
mod JumpRows
mod Listing
mod LockNumbers
-- one addition to what is found, and many
mod Blanks
mod Additions
mod Numbering
mod Steps
mod Adding
mod Fronts
mod Entering
mod Each
-- points of regions, and those that wait
mod SpanLaws
mod Points
mod Waits
mod Taking
mod Turning
mod Nexts
mod Befores
-- what locks become over an instruction, at calls and at entries
mod Masking
mod Splitting
mod Linking
mod Entries
-- only what is needed is found, and all of it
mod Sound
mod Closing
mod Completing
pub mod Leasts
-- what is found is told, and what is needed by the definition
mod SetNeeds
mod Tellings
mod Grouping
pub mod Basing
pub mod Ending
pub mod Alike
