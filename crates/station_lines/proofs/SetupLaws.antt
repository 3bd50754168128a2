pub mod WordCutting
pub mod LineLaws
pub mod TextLaws
pub mod TableLaws
