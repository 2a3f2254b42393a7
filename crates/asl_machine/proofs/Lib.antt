-- requests: what the locks of a list ask
pub mod Joins
pub mod LeastRequests
pub mod RootedRequests
pub mod RequestEntries
pub mod Asks
pub mod Asking
pub mod Granted
pub mod NodePlaces
-- lists, objects and frames
pub mod Lists
pub mod Rising
pub mod Heaps
pub mod WellFormedHeaps
pub mod Frames
pub mod PackedValues
-- what each step keeps
pub mod Codes
pub mod Nodes
pub mod Following
pub mod Placing
pub mod InstrGroups
pub mod Readiness
pub mod Starts
pub mod Invariant
pub mod Machines
pub mod Others
-- the computed step is the line of the table
pub mod ValueLines
pub mod ControlLines
pub mod Table
pub mod LinesLeft
pub mod Unique
-- the kinds of lines
pub mod LineKinds
-- runs, and what they reach
pub mod Lines
pub mod StepLeaves
pub mod Reached
pub mod Runs
pub mod TableRuns
-- fresh objects stay apart
pub mod Freshness
pub mod FreshLeft
pub mod MadeBy
pub mod Elsewhere
pub mod Unknown
pub mod ApartTurns
pub mod ApartHeaps
pub mod Apart
pub mod ReachedApart
