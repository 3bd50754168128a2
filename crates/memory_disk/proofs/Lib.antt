pub mod Tearing
pub mod AnyDisk
