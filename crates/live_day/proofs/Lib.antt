mod DayLaws
mod GroupLaws
pub mod SessionLaws
mod ShowLaws
mod SinceLaws
mod StartLaws
mod StopLaws
pub mod StoppedLaws
mod TypingLaws
mod WaitingLaws
