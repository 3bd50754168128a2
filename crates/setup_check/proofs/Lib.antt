pub mod FindingLaws
pub mod AppendLaws
pub mod WrongPairLaws
pub mod ScriptTextLaws
pub mod PairLaws
pub mod DayLaws
pub mod PlaceLaws
