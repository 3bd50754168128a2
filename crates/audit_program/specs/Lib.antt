pub mod Comparing
pub mod Program
pub mod Writing
pub mod Asked
pub mod Endings
pub mod Laws
pub mod Asking
