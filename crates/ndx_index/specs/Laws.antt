-- What follows from the definitions, with its proofs: laws that any crate may cite.
pub mod Lists
pub mod Comparing
pub mod Sorting
pub mod Steps
pub mod Seeking
pub mod Counting
pub mod Given
pub mod Numbered
pub mod Renumbered
