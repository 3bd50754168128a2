pub mod Positions
pub mod ShownLaws
pub mod Steps
pub mod SelectedLaws
pub mod Fronts
pub mod Kept
pub mod WidthLaws
pub mod Among
