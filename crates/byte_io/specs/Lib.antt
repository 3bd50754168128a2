pub mod Sink
pub mod Writer
pub mod Output
pub mod Laws
