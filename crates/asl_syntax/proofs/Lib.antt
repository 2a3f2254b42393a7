-- tokens: their bytes and their numbers
pub mod Ascii
pub mod Numbers
pub mod Digits
pub mod Decimals
pub mod Narrow
pub mod Spaced
pub mod Respelled
-- tokens build a tree
pub mod Plain
pub mod Whole
pub mod Fitting
pub mod Building
pub mod Made
pub mod Tallying
pub mod Few
-- what breaks the limits
pub mod EachLimit
pub mod LimitPlaces
pub mod LimitCounts
pub mod LimitNumbers
pub mod LimitBraces
pub mod WithinLimits
-- the names of a text, and those of its tree
pub mod KnownNames
pub mod Listed
pub mod Named
pub mod Among
pub mod Bodies
pub mod DeclaredNames
pub mod Declarers
pub mod Mentioned
pub mod Heard
pub mod Short
-- what breaks the rules of names
pub mod First
pub mod DeclaredBefore
pub mod Declared
pub mod FirstTwice
pub mod Used
pub mod FirstUnknown
pub mod Called
pub mod FirstWrongCall
pub mod Agreed
pub mod Scanned
pub mod Placed
-- a tree that is printed is read back
pub mod Leaner
pub mod Within
pub mod Printing
pub mod ReadBack
pub mod Answered
-- the outcome of a text
pub mod Outcomes
pub mod AnyOutcome
