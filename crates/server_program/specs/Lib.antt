pub mod Kept
pub mod PlacedAnswers
pub mod Program
pub mod Endings
pub mod Starts
