pub mod Paths
pub mod Files
pub mod Placed
