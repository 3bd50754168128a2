pub mod NameLists
mod Beside
mod Opened
pub mod Runs
pub mod Meaning
pub mod Each
pub mod Ending
pub mod Uncommitted
pub mod Committing
pub mod CutLists
pub mod Sets
pub mod Histories
pub mod WrittenFiles
pub mod Settling
