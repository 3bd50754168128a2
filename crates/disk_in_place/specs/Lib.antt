pub mod InPlace
pub mod SystemInPlace
