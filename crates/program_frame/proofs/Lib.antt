pub mod BesideDay
pub mod EndLaws
pub mod InPlaceLaws
pub mod InputDays
pub mod Options
pub mod PlacingLaws
pub mod Printing
