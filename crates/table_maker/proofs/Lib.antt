pub mod IndexLaws
pub mod LoadLaws
pub mod MakeLaws
pub mod PlaceLaws
