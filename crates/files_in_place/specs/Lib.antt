pub mod Folder
pub mod Disk
pub mod Recovery
pub mod Staged
pub mod History
pub mod Written
pub mod Faults
pub mod System
