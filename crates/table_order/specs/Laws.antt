-- What follows from the definitions, with its proofs: laws that any crate may cite.
pub mod RecordPairs
pub mod RecordOrders
pub mod RecordKeys
pub mod Places
pub mod Given
pub mod Numbered
pub mod Packing
