pub mod TableOrder
pub mod Packing
pub mod Laws
