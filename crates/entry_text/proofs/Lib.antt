-- Lemmas for the contracts of the crate.
pub mod EntryLaws
