pub mod Refusals
pub mod Layout
