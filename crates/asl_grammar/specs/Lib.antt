pub mod Token
pub mod Written
pub mod Spelling
pub mod Lex
pub mod Grammar
pub mod View
pub mod Bytes
pub mod Readings
-- Machinery of the proofs, not of the promise:
pub mod Automaton
pub mod Reader
pub mod ControlView
pub mod Seen
pub mod SeenView
pub mod Recent
