pub mod GateLaws
mod SumLaws
mod LineLaws
mod Tearing
pub mod Reading
pub mod Putting
mod GroupLaws
mod PlacingLaws
