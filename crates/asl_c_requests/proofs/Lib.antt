mod Inserted
mod KindLaws
mod WordLaws
mod PlacedLaws
mod ShownLaws
mod TracedLaws
mod Promises
