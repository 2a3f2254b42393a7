-- what a refusal names is in the text
pub mod Refused
-- what is told
pub mod Telling
mod Ends
