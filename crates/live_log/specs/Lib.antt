pub mod Faults
pub mod Gates
pub mod Logs
pub mod Placing
