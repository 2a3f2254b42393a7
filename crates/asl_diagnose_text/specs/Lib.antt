pub mod SyntaxPlaces
pub mod AssemblyPlaces
pub mod Shown
pub mod Statements
pub mod Unknown
pub mod Position
pub mod Expected
pub mod Listed
pub mod Places
pub mod Instructions
-- Machinery of the proofs, not of the promise:
pub mod TextLines
pub mod SeenView
pub mod AccessView
pub mod UsesView
pub mod WalkView
