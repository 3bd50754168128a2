pub mod PathLaws
pub mod FolderLaws
pub mod ListingLaws
pub mod ReadingLaws
pub mod ByteLaws
pub mod PlacedLaws
pub mod SinceLaws
