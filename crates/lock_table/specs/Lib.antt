pub mod Numbers
pub mod Locks
pub mod Slots
pub mod Changes
pub mod NumberLaws
pub mod Laws
