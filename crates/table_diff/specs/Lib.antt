pub mod Fields
pub mod Changes
pub mod Told
pub mod DiffText
pub mod Matching
pub mod ByKey
pub mod KeySteps
