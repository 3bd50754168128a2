mod Commands
mod ConsoleLaws
mod DayLaws
mod FailureLaws
mod FileLaws
mod GreetingLaws
mod HeadLaws
mod LifeLaws
mod MarksLaws
mod NumberListLaws
mod OpeningLaws
mod OtherDayLaws
pub mod PrintingLaws
mod ReadingLaws
mod SayingLaws
