-- what all passes use
pub mod Having
pub mod Analysed
pub mod Standing
pub mod Stepping
pub mod Arguments
pub mod Owning
-- the first pass: states agree with the classes, and threads are nested
pub mod Agreeing
pub mod Agreement
pub mod Nesting
pub mod NestingLines
pub mod Structure
pub mod StructureLaws
-- locks over one step
pub mod Protecting
pub mod Avoiding
pub mod Rows
pub mod Stored
pub mod Grown
pub mod Links
pub mod LinkLines
pub mod LinkOthers
pub mod Based
-- the second pass: what the top frame wants is kept
pub mod Regions
pub mod Keeping
pub mod Entering
pub mod OwnLines
pub mod Others
pub mod Sections
pub mod NeededLaws
-- the third pass: over calls and returns
pub mod Calling
-- all passes together
pub mod Safety
pub mod Soundness
