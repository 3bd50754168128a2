pub mod ReadLaws
pub mod WordLaws
pub mod LayoutLaws
pub mod PrintedLaws
