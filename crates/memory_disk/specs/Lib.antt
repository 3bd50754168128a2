pub mod Seen
pub mod Outcomes
pub mod Crashes
pub mod AnyDisk
pub mod Laws
