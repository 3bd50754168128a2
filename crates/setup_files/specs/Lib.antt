pub mod HeadNumbers
pub mod EntryFiles
pub mod Loads
pub mod Noted
