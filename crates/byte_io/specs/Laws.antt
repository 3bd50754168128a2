-- What follows from the definitions, with its proofs: laws that any crate may cite.
pub mod OfBytes
pub mod Sinks
pub mod Puts
