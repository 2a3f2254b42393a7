pub mod Turn
-- Machinery of the proofs, not of the promise: the rule of the shared word, by which the calls are proved
pub mod Rule
