-- Lemmas for the contracts of the crate.
pub mod CheckLaws
pub mod Commands
pub mod DiffLaws
pub mod JournalLaws
pub mod LoadLaws
pub mod IndexLaws
pub mod MadeLaws
pub mod Printing
pub mod Reading
pub mod RunAnswers
pub mod RunLaws
