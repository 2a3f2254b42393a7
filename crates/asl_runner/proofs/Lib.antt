mod Dealing
mod Workers
mod Unended
mod Joins
mod Sizes
mod Ends
mod Promises
mod Own
