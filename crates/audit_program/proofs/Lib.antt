mod AskingLaws
mod Commands
pub mod ComparingLaws
pub mod PrintingLaws
pub mod ProgramLaws
pub mod RunJournals
pub mod RunFiles
pub mod WritingLaws
mod FirstOther
mod RunLoads
