-- Laws of the definitions, with their proofs: what any crate may cite.
pub mod Outcomes
pub mod Numbers
pub mod Moves
pub mod Edits
pub mod Lists
