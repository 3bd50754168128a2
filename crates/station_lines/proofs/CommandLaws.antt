pub mod NumberLaws
pub mod ValueLaws
pub mod LineLaws
pub mod OneLineLaws
