mod Joined
mod Externs
mod Values
mod Named
mod Numbers
mod Talks
mod Asked
mod Plain
mod StepRules
mod WalkInvariant
mod StepWalk
mod StepRows
mod StepFaults
mod ReadApart
pub mod RunAlone
