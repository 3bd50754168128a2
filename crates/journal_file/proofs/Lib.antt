pub mod TextLaws
pub mod ReadLaws
