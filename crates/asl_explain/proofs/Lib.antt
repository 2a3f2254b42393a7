mod Ends
mod Under
mod Confirming
mod Analysing
mod Needing
mod Dropping
mod Explaining
mod Piecing
mod Blanks
mod Chosen
mod Rowing
mod Sectionwise
mod Walking
mod Reasons
mod Lengthening
mod Short
pub mod Opening
pub mod FirstSection
pub mod ToldClasses
