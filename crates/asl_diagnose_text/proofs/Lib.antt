-- bytes, lines and tokens
pub mod LineEnds
pub mod Adding
pub mod Rowed
pub mod Tokens
pub mod Words
pub mod TokenOn
-- where the automaton stops, and what it waits for
pub mod Accepted
pub mod Goes
pub mod KindsOnce
pub mod Led
pub mod Stop
-- names among tokens, and among what a tree mentions
pub mod Roles
pub mod DeclaringNames
pub mod Scanned
pub mod Sought
pub mod Mains
pub mod FirstTwo
pub mod RememberedNames
pub mod RepeatedNames
-- the first use of an unknown name
pub mod ToldDeclarations
pub mod NameSearch
pub mod FunctionSearch
pub mod FirstUse
-- what a refusal names is in the text
pub mod There
pub mod Stars
pub mod AccessCounts
pub mod Sizes
pub mod Instructed
pub mod Breaking
pub mod NamesThere
-- the assignments and stores between two places
pub mod Beginnings
pub mod Braces
