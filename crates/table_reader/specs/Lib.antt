pub mod Memos
pub mod TableFiles
